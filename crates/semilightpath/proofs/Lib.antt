pub mod Lists
pub mod Prices
pub mod Numbered
