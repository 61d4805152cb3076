pub mod Counts
pub mod Puts
pub mod Magnitudes
pub mod Texts
pub mod Values
