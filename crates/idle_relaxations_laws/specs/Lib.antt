pub mod NoCycles
pub mod ItemRelaxations
