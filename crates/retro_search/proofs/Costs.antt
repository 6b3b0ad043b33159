-- How many queries are visited.
pub mod CostSums
pub mod OneCost
pub mod Deeper
pub mod WholeSizes
