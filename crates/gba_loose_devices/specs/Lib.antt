pub mod Values
pub mod Devices
pub mod Picture
pub mod Sound
pub mod Cable
pub mod Whole
pub mod Checks
