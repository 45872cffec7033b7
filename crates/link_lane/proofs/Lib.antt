pub mod Known
pub mod Waitings
pub mod Lanes
pub mod Stepping
pub mod Listening
