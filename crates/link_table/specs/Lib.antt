pub mod Text
pub mod Seated
pub mod Opening
pub mod Uniting
pub mod Joining
