pub mod Inputs
pub mod InputsPlan
pub mod Views
pub mod Filled
pub mod Law
