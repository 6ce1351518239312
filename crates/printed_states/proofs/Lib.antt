pub mod Starred
pub mod Interleaved
pub mod ArchitecturesKeepLoads
pub mod KeptLoads
pub mod Fixed
