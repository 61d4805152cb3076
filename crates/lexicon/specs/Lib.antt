pub mod Class
pub mod Span
pub mod Symbol
pub mod Examples
