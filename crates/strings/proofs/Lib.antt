pub mod Braces
pub mod Fours
pub mod Escapes
pub mod Characters
pub mod Sizes
pub mod Walks
pub mod Answers
pub mod Texts
