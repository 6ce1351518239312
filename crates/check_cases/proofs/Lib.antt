pub mod Observers
pub mod Operations
