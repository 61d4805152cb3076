pub mod Literal
pub mod Theory
pub mod Agreement
pub mod Examples
