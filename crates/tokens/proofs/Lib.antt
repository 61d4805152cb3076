pub mod Insides
pub mod Digits
pub mod Lexemes
pub mod Sizes
pub mod Reaches
pub mod Lexes
pub mod Pasts
