pub mod States
pub mod Ordered
pub mod Listed
pub mod Rebuilt
pub mod VerdictLaws
pub mod FixedLaws
pub mod CycleStates
