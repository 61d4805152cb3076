pub mod Number
pub mod Limit
