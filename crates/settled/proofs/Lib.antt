pub mod Steps
pub mod Takes
pub mod Quiet
