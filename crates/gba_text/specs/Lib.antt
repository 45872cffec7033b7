pub mod Lines
pub mod Words
pub mod Numbers
pub mod Reading
pub mod Steps
pub mod Languages
pub mod Answers
pub mod Told
