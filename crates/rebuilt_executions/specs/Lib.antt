pub mod LoadValues
pub mod Settled
pub mod RunAccesses
pub mod Settling
pub mod Growing
pub mod LoadLaws
