pub mod Digests
pub mod Files
pub mod Held
pub mod Session
pub mod Start
