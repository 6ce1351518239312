pub mod SpelledWords
pub mod OwnLines
pub mod SaidCycles
pub mod YesVerdicts
