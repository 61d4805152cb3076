pub mod Checks
pub mod Right
