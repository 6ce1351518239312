pub mod Choices
pub mod CrossingSteps
pub mod NormalForms
pub mod Known
pub mod ComposedLaws
pub mod Laws
