pub mod Stops
pub mod Joins
pub mod Walks
pub mod Rows
pub mod Lists
pub mod Symbols
pub mod Lines
