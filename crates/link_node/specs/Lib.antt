pub mod Alone
pub mod Delays
pub mod Due
pub mod Packing
