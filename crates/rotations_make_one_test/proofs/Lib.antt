pub mod UniformArchitectures
pub mod UniformCode
pub mod Swapped
pub mod Turned
pub mod Parts
pub mod Steps
pub mod Runs
pub mod Terms
pub mod OneTest
mod Examples
