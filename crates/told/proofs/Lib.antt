pub mod Codes
pub mod Tellings
