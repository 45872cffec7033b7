pub mod Advance
pub mod History
pub mod Going
pub mod Watching
pub mod Equality
pub mod Horizons
pub mod Reaching
