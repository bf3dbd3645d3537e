pub mod KnownBits
pub mod Bits
pub mod BitsLaws
