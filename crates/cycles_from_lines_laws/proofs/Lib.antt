pub mod PrintedLines
pub mod Parting
mod Examples
