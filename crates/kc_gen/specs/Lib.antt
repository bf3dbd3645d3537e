pub mod Image
pub mod Texts
pub mod Samples
pub mod Generated
