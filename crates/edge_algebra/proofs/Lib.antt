pub mod Windows
pub mod Composed
