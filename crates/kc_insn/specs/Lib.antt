pub mod Fields
pub mod Table
pub mod Spells
pub mod Encodable
