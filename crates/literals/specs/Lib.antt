pub mod Answer
pub mod Parts
pub mod Plan
pub mod Field
