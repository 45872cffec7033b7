pub mod Consistent
pub mod Enabled
