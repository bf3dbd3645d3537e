pub mod Placing
pub mod Goes
