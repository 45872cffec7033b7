pub mod FlagsApart
pub mod FileLaws
pub mod Kept
pub mod Seats
pub mod Views
