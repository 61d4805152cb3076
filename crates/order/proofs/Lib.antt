pub mod Befores
pub mod Everies
pub mod Inserts
pub mod Arranges
pub mod Merges
pub mod Unions
pub mod Sames
