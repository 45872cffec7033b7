pub mod Checks
pub mod Console
pub mod Cut
pub mod Loose
pub mod Law
pub mod Refused
pub mod Stored
