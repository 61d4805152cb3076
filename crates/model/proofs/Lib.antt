pub mod Choices
pub mod Lengths
pub mod Settled
pub mod Skipped
pub mod Image
