pub mod Uniform
pub mod Renamed
