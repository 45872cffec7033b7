pub mod Effects
pub mod Making
