pub mod Cycles
pub mod Keeping
pub mod Parts
pub mod Registers
pub mod Samples
pub mod State
