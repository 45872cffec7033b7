pub mod Aligned
pub mod Keeping
pub mod Telling
pub mod Loading
pub mod Storing
pub mod Crossing
pub mod Saving
