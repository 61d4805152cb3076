pub mod Result
pub mod Sort
pub mod Reads
