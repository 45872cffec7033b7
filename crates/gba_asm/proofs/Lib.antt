pub mod CountedItems
pub mod Passes
pub mod Lone
