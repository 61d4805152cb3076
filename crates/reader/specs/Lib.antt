pub mod Tally
pub mod Read
pub mod Write
pub mod Judge
pub mod Program
pub mod Samples
pub mod Rooms
