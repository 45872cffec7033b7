pub mod Lists
pub mod Signed
