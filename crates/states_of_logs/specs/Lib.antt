pub mod StatesSummed
pub mod StatesEnds
pub mod JudgingSteps
pub mod JudgedLaws
pub mod TakenLaws
