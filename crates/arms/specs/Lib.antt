pub mod Record
pub mod Arm
pub mod Walk
pub mod Settle
pub mod Table
