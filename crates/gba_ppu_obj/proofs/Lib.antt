pub mod Foremost
pub mod Painting
pub mod Rounding
pub mod Turning
