pub mod Attributes
pub mod Fits
pub mod Order
pub mod Places
pub mod Rounding
pub mod Seen
pub mod Sprites
pub mod Tiles
