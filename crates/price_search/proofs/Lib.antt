pub mod HomesCosts
pub mod LowPrices
mod Examples
