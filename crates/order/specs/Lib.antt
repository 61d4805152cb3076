pub mod Order
pub mod Every
pub mod Merge
