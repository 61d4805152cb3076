pub mod Scripts
pub mod Lines
pub mod Texts
pub mod Tables
pub mod Lengths
pub mod Feeds
