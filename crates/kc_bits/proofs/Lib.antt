pub mod Carries
pub mod Masks
pub mod Operations
pub mod Sums
pub mod Whole
pub mod Cut
pub mod Prefix
