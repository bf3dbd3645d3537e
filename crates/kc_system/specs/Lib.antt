pub mod System
pub mod Laws
pub mod Forbidden
