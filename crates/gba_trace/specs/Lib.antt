pub mod Trace
pub mod Way
