pub mod NodeKind
pub mod Order
pub mod Due
pub mod Cut
pub mod GlobalOrder
pub mod Interleaving
pub mod Way
