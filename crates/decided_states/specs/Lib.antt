pub mod DecidedStates
