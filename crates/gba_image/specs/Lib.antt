pub mod Backups
pub mod Checks
pub mod Names
