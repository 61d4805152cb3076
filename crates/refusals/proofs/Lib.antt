pub mod Tells
pub mod Stars
