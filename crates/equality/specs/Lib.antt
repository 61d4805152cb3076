pub mod Part
pub mod Singles
pub mod Notes
pub mod Leaf
pub mod Compared
