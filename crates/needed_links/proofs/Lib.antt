pub mod OrderLines
