pub mod Vocabulary
mod Examples
pub mod Texts
pub mod Cases
pub mod Lines
pub mod Blocks
pub mod Printed
pub mod Scans
pub mod AgreeingFacts
pub mod Orders
pub mod Sums
pub mod Alike
pub mod Forms
pub mod LineFacts
pub mod WholeTests
pub mod Names
pub mod Laws
pub mod Represented
