pub mod Bits
pub mod Bytes
pub mod Hexadecimal
pub mod RegisterNames
