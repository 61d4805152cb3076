pub mod Lines
pub mod Trees
pub mod Spellings
pub mod Given
pub mod One
pub mod Bounds
pub mod Demand
