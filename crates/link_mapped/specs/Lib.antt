pub mod Mapped
pub mod Law
