pub mod SaidLaws
pub mod JudgedPrinting
pub mod JudgingLaws
