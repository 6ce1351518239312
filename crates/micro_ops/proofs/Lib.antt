pub mod Examples
pub mod Laws
pub mod Naming
pub mod Outcomes
pub mod Steps
pub mod Threads
