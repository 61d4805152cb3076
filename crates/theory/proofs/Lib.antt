pub mod Digits
pub mod Forms
pub mod Quotes
pub mod Sizes
pub mod Braces
pub mod Places
pub mod Agreements
