pub mod Telling
pub mod Busy
pub mod Seats
pub mod Lengths
pub mod Going
pub mod Apart
pub mod Making
