pub mod Idle
pub mod Positions
pub mod Laws
