pub mod Flash
pub mod Soundness
pub mod Laws
pub mod Replacing
