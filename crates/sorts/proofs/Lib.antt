pub mod Rows
pub mod Read
pub mod One
