pub mod Reached
pub mod Length
pub mod Parts
