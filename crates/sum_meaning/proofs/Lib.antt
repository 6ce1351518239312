pub mod SameSums
pub mod Names
pub mod Judged
pub mod SameFacts
pub mod Reordered
pub mod Observed
mod Examples
