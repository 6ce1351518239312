mod NameExamples
pub mod Vocabulary
pub mod Tables
pub mod Members
pub mod EdgeListOrder
pub mod Marks
pub mod PlainEvents
pub mod Outlines
pub mod Families
pub mod NamedRotations
pub mod ReadBack
pub mod NameLaws
pub mod Texts
pub mod Places
pub mod NameSteps
pub mod CycleOf
