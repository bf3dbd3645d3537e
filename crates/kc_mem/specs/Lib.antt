pub mod Memory
pub mod PageSteps
pub mod InsideSteps
