pub mod Position
pub mod Quiet
pub mod Registers
