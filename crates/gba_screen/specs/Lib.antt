pub mod Lines
pub mod Paying
pub mod Screen
