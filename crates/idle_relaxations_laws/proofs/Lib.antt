pub mod NoCycles
pub mod ItemTexts
pub mod DistinctPaths
pub mod ItemRelaxations
