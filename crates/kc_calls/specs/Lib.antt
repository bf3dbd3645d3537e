pub mod Laws
pub mod Entered
