pub mod Readings
pub mod Keeping
pub mod Leaves
pub mod Bursts
pub mod Reaching
pub mod Wholeness
pub mod Turns
