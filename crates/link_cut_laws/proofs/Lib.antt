pub mod Turning
pub mod Going
pub mod Coming
pub mod Keeping
