pub mod Fields
pub mod Ranges
pub mod Numbers
pub mod Laws
