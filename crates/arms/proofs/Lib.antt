pub mod Records
pub mod Whens
pub mod Rests
pub mod Chains
pub mod Disjuncts
pub mod Settles
pub mod Tables
