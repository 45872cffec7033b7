pub mod Files
pub mod Halves
pub mod Operations
pub mod Words
