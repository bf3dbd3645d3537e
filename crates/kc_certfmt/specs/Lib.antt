pub mod Reading
pub mod Resume
pub mod Fed
pub mod Steps
pub mod File
