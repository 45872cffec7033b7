pub mod Paints
pub mod Tiles
