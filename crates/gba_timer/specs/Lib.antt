pub mod Timer
pub mod Timers
pub mod Quiet
pub mod Skipping
