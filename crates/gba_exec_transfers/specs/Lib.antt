pub mod Accesses
pub mod Blocks
pub mod Done
pub mod Effects
pub mod Keeping
pub mod Plain
pub mod Singles
