pub mod FlatPrices
pub mod FlatGrounds
pub mod Standing
