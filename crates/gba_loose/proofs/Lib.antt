pub mod Made
pub mod Bytes
pub mod Run
pub mod Tones
