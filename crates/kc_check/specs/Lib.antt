pub mod Events
pub mod User
