pub mod Text
pub mod LineSteps
