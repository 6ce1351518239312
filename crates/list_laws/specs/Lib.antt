pub mod Numbers
pub mod Errors
