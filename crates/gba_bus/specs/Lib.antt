pub mod Meanings
pub mod PriceLaws
pub mod Prices
pub mod Regions
pub mod Widths
