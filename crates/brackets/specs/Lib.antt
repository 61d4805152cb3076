pub mod Token
pub mod Walk
pub mod Count
pub mod Put
