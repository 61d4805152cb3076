pub mod Reply
pub mod Read
pub mod Printed
pub mod Examples
