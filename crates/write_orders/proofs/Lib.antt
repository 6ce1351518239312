pub mod Sorted
pub mod Locations
pub mod Agreeing
pub mod Best
pub mod Forced
pub mod AlwaysBefore
