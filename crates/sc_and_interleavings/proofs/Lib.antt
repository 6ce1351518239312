pub mod Vocabulary
pub mod Places
pub mod Steps
pub mod Shapes
pub mod Sequential
pub mod SequentialMade
pub mod CoherenceLaws
mod CoherenceExamples
pub mod Filtered
pub mod RunReads
pub mod MadeReads
pub mod Lines
pub mod InterleavingSteps
pub mod Made
pub mod RelationCycles
pub mod InterleavingLaws
pub mod Sorting
pub mod Listed
pub mod AccessOrder
pub mod Line
pub mod NoCycleOfInterleavings
pub mod SequentialLaws
mod SequentialExamples
pub mod Distances
pub mod OneLink
pub mod Levels
pub mod Outcomes
