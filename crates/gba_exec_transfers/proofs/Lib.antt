pub mod Accesses
pub mod Keeping
pub mod Lengths
pub mod Lists
pub mod PlainBlocks
pub mod Runs
pub mod Scanning
pub mod Words
