pub mod PrintedStates
pub mod KeptLoads
pub mod FixedStates
