pub mod Cable
pub mod Holding
pub mod Staying
