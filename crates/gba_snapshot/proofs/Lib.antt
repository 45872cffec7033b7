pub mod Forgetting
pub mod Halfwords
pub mod Lines
pub mod Places
pub mod Text
