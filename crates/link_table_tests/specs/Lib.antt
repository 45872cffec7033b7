pub mod Ticking
pub mod Following
