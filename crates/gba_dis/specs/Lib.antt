pub mod Pieces
pub mod Arm
pub mod Thumb
pub mod Units
pub mod Listing
pub mod Lone
pub mod Law
