pub mod Kept
pub mod Leave
pub mod Burst
pub mod Whole
