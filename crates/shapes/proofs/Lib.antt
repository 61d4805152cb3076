pub mod Looks
pub mod Stood
pub mod Seen
pub mod Arms
pub mod Pairs
pub mod Heads
pub mod Sorts
