pub mod Moves
pub mod Fields
pub mod Cycling
pub mod Sound
pub mod Ticking
pub mod Amounts
pub mod Again
pub mod Time
