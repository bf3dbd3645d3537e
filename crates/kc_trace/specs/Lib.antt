pub mod Faults
pub mod Words
pub mod Numbers
pub mod Assignments
pub mod Form
pub mod Script
