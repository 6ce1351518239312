pub mod FixedTexts
pub mod FixedTextLaws
pub mod Founds
pub mod Printing
