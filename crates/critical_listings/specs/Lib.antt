pub mod Relaxes
pub mod Accepted
pub mod Listed
pub mod Converse
