pub mod Spans
pub mod FirstPieces
pub mod Numerals
pub mod Steps
pub mod Languages
pub mod ReadLines
