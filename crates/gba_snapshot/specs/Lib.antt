pub mod Io
pub mod Snapshot
pub mod Console
pub mod File
pub mod Laws
