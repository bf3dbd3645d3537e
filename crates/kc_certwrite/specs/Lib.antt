pub mod Shares
pub mod ShareSteps
pub mod Ends
