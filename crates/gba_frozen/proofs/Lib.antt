pub mod LinePieces
pub mod Digits
pub mod Loops
pub mod RowCounts
