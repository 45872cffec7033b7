pub mod Steps
pub mod Law
