pub mod FileLengths
pub mod Going
pub mod LineLengths
pub mod Parting
pub mod Reaching
pub mod Ready
pub mod Rested
pub mod Starting
