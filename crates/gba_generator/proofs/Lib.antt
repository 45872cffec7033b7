pub mod Rows
pub mod ProgramRows
pub mod SeedLine
pub mod Assembled
pub mod MadeJob
