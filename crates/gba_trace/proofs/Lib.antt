pub mod Rooms
pub mod Showing
pub mod Stretches
