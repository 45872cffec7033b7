pub mod Affine
pub mod Bitmap
pub mod Places
pub mod Rounding
