pub mod Branching
pub mod Reading
pub mod Packing
pub mod RoundTrip
pub mod Writing
