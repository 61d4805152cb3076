pub mod Bytes
pub mod Written
pub mod Image
pub mod Limits
pub mod Agreement
pub mod Examples
