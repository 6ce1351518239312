pub mod Report
pub mod SkippedLines
