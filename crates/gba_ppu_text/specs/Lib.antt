pub mod Paint
pub mod Text
