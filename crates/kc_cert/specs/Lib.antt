pub mod Code
pub mod Table
pub mod Placed
pub mod Form
pub mod Conditions
pub mod Certified
pub mod FirstRefusal
pub mod IterationLimit
