pub mod Fetched
pub mod Turns
pub mod Allowed
pub mod Edits
pub mod Delivery
pub mod Attempt
pub mod Breaks
pub mod Run
