pub mod Foremost
pub mod Grounds
pub mod Lines
pub mod Marks
pub mod Pixels
pub mod Runs
pub mod Tied
