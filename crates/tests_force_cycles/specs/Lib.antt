pub mod CycleSteps
pub mod TestOf
pub mod TestPrograms
pub mod FinalStates
pub mod TestHeadline
