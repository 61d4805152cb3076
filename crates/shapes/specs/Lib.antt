pub mod Shape
pub mod Shows
pub mod SortShape
