pub mod Readings
pub mod AnyValues
pub mod PrintedHeadline
pub mod ScLaws
pub mod Links
