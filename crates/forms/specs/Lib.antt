pub mod Form
pub mod Leaf
