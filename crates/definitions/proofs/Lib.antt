pub mod Measures
pub mod Variables
pub mod Arms
pub mod Chains
pub mod Tests
pub mod Functions
pub mod One
