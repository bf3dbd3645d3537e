pub mod Count
pub mod Files
pub mod ReadSteps
pub mod Sink
pub mod Memory
