pub mod LoggedStates
pub mod LogLaws
