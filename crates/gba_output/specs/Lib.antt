pub mod StateFile
pub mod Truths
pub mod TransferWords
