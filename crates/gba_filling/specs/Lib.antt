pub mod Memories
pub mod Drawn
pub mod Loose
pub mod Signals
pub mod Consoles
pub mod Filling
