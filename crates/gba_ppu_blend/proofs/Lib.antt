pub mod Choices
pub mod More
pub mod Vectors
