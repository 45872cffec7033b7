pub mod Meanings
pub mod Effects
pub mod Execution
pub mod Forms
pub mod Operations
