pub mod Standing
pub mod Scanning
pub mod ItemLengths
pub mod FoundItems
