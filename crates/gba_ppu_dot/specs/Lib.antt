pub mod Bytes
pub mod Control
pub mod Dots
pub mod Paints
pub mod Signed
