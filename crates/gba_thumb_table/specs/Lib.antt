pub mod Fields
pub mod Limits
pub mod Diagrams
pub mod Encoding
pub mod Table
pub mod Branches
