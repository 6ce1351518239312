pub mod Verdicts
pub mod StateParts
pub mod BestEnding
