pub mod Escape
pub mod Points
pub mod Text
pub mod Samples
