pub mod Conditions
pub mod CondText
pub mod ConditionReading
pub mod ConditionAnswers
pub mod States
pub mod ConditionReadBack
pub mod FormLaws
pub mod CondTextLaws
