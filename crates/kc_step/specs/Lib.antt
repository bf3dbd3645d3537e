pub mod Step
pub mod Covered
