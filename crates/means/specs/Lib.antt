pub mod Literal
pub mod Samples
pub mod Worked
