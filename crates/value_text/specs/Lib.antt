pub mod Wrote
pub mod Laid
pub mod Leaf
pub mod Made
pub mod Closed
pub mod Value
pub mod Opened
