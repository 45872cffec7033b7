pub mod Accesses
pub mod Before
