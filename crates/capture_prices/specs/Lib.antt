pub mod Prices
pub mod StoredPrices
