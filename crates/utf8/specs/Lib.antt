pub mod Rows
pub mod Octets
pub mod Encoding
pub mod Examples
