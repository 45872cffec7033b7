pub mod There
pub mod Filling
pub mod Places
pub mod Checked
