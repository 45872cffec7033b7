pub mod Extension
pub mod Shifts
pub mod Sums
pub mod Weights
