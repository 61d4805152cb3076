pub mod Mark
pub mod Kept
