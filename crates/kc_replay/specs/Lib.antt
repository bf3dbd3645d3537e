pub mod Values
pub mod Turns
pub mod Told
pub mod Script
pub mod Progress
