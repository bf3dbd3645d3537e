pub mod Spaces
pub mod Latches
pub mod SpacesLaws
pub mod LatchesLaws
