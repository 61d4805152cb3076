pub mod Tree
pub mod Layout
pub mod Arena
pub mod Node
pub mod Text
pub mod Stands
