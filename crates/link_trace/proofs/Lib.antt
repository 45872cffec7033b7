pub mod Ways
pub mod Prefixes
pub mod Inboxes
pub mod Gatherings
