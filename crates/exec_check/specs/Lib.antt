pub mod Verdicts
pub mod ShownTexts
pub mod FilesChecked
pub mod CheckedLaws
pub mod CheckingSteps
