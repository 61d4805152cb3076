pub mod Notes
pub mod Sizes
pub mod Lasts
pub mod Walks
pub mod Places
pub mod One
