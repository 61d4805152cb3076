pub mod Pairs
pub mod Commands
pub mod Links
pub mod Tests
pub mod Keys
pub mod Shapes
