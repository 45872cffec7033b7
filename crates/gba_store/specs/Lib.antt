pub mod Files
pub mod Given
pub mod Counts
pub mod Memory
pub mod Chosen
