pub mod Listed
pub mod Values
