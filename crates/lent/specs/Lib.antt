pub mod Left
pub mod Put
