pub mod Branching
pub mod Settling
pub mod Reading
pub mod Placing
pub mod RoundTrip
pub mod Writing
