pub mod Code
pub mod Tells
pub mod Yields
