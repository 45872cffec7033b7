pub mod Numbers
pub mod Fields
pub mod Limits
pub mod Classes
pub mod Diagrams
pub mod Encoding
pub mod Table
pub mod Branches
