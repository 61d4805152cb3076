pub mod Limits
pub mod Rises
pub mod Trails
pub mod Sizes
pub mod Spaces
