pub mod Classes
pub mod Spans
pub mod Symbols
