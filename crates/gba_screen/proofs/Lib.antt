pub mod Bytes
pub mod Drawing
pub mod Shown
