pub mod Following
pub mod Hearing
pub mod Pausing
