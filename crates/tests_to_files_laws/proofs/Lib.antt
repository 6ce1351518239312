pub mod Stems
pub mod Written
pub mod OwnFiles
