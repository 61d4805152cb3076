pub mod Leads
pub mod Concatenations
pub mod Scans
pub mod Encodings
