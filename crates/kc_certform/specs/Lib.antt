pub mod Numbers
pub mod CertBytes
pub mod HasSpelling
pub mod Written
pub mod Finds
