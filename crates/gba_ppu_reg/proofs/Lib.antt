pub mod Moving
pub mod Silence
