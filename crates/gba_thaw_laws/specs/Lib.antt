pub mod Holds
pub mod Said
pub mod Laws
pub mod Text
pub mod Cut
