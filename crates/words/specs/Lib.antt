pub mod Pair
pub mod Radix
pub mod Run
pub mod Extension
