pub mod Arrangement
pub mod Entry
pub mod Modes
pub mod RegisterFile
pub mod Status
