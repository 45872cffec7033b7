pub mod FormEffects
pub mod Keeping
pub mod Lengths
