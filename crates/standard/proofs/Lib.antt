pub mod Runs
pub mod Separators
pub mod Numbers
pub mod Names
pub mod Literals
pub mod Texts
pub mod Trees
pub mod Vectors
