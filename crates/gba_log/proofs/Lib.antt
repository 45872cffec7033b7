pub mod ShortPieces
pub mod Printed
