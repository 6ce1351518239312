pub mod Asked
pub mod Counting
pub mod Listing
pub mod Search
