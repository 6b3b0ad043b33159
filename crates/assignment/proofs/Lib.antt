pub mod LeastSlack
pub mod Beginning
pub mod Swaps
pub mod Handing
pub mod Growth
pub mod Duality
pub mod Injections
pub mod Solved
pub mod ReadOff
pub mod Costs
pub mod Tables
pub mod Totals
pub mod Decided
mod Examples
pub mod Existence
