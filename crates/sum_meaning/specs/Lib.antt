pub mod Observed
pub mod Reordered
