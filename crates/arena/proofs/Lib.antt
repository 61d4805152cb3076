pub mod Prefixes
pub mod Views
pub mod Layouts
pub mod Arenas
pub mod Texts
