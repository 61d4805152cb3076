pub mod Overflow
pub mod Sign
pub mod Examples
