pub mod FedLines
pub mod Steps
pub mod Fits
pub mod Counting
