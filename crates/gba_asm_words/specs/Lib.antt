pub mod Kinds
pub mod Tokens
pub mod Numbers
pub mod Names
pub mod Readers
pub mod Lists
