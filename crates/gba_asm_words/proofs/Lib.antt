pub mod FirstTokens
pub mod Numerals
pub mod ListSteps
pub mod SpelledLists
