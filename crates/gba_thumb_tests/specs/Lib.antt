pub mod Prices
pub mod PriceLaws
