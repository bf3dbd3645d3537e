pub mod Range
pub mod Span
pub mod LittleEndian
pub mod Flags
pub mod Sign
