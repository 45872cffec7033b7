pub mod UnitView
pub mod Agreement
