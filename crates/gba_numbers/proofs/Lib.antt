pub mod ByPlace
pub mod Setting
pub mod OwnPlaces
