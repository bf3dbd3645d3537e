pub mod Status
pub mod Words
pub mod RequestSteps
pub mod Lines
pub mod Work
pub mod Output
pub mod OutputSteps
