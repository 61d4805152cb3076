pub mod Run
pub mod Piece
pub mod Place
pub mod Merge
pub mod Pair
pub mod Index
pub mod Arrange
pub mod Examples
