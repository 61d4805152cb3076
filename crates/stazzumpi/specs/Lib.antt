pub mod Exports
pub mod Kind
pub mod Outs
pub mod Version
