pub mod ByKind
pub mod Results
pub mod Needs
pub mod LineNeeds
pub mod TableNeeds
