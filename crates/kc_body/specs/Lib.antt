pub mod Edit
pub mod Body
