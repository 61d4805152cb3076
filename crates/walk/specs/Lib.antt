pub mod Noted
pub mod Placed
pub mod Last
pub mod Walked
