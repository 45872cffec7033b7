pub mod Cycling
pub mod Drawing
pub mod Ending
pub mod Keeping
pub mod Telling
pub mod Crossing
