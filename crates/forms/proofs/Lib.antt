pub mod Parts
pub mod Arms
pub mod Leaves
pub mod Rows
pub mod Apps
pub mod Nodes
