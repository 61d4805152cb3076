pub mod Sizes
pub mod Signs
pub mod Results
pub mod Least
