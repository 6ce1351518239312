pub mod ExecutionText
pub mod ExecutionSteps
pub mod Written
pub mod ExecutionReadBack
