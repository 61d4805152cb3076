pub mod Lists
pub mod Line
pub mod Grounds
pub mod Entries
pub mod Tally
pub mod Stages
pub mod Examples
