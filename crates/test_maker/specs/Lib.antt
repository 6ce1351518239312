pub mod Refusals
pub mod Made
pub mod ConditionTerms
pub mod ThreadStarts
pub mod CycleText
pub mod CycleTextLaws
