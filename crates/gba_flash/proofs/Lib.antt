pub mod Erased
pub mod Commands
pub mod Sound
pub mod Kept
pub mod Crossing
