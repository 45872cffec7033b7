pub mod Directives
pub mod Statements
pub mod Places
pub mod Encoding
pub mod Assembly
pub mod Language
pub mod Answers
