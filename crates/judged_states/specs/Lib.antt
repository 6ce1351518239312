pub mod SaidStates
pub mod JudgedStates
pub mod JudgedText
