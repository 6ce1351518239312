pub mod Resolution
pub mod Values
pub mod Entries
