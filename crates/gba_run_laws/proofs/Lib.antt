pub mod Acting
pub mod Cores
pub mod Ending
pub mod Lines
pub mod Memories
pub mod Pressing
pub mod Staying
pub mod Steps
