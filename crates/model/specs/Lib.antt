pub mod Model
pub mod Listing
pub mod Skipped
pub mod Image
pub mod Sample
pub mod Given
