pub mod Logged
pub mod Logs
