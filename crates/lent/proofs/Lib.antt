pub mod Lefts
pub mod Pieces
pub mod Copies
pub mod Offers
