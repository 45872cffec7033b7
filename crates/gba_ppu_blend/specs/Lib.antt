pub mod Colours
pub mod Lanes
