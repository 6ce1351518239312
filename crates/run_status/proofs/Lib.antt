pub mod Reported
mod Skipped
