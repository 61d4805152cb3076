pub mod Draws
pub mod Replaces
