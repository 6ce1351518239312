pub mod Families
pub mod LinkWords
pub mod Rotations
pub mod CycleNames
pub mod Fitting
pub mod NameReading
pub mod Laws
