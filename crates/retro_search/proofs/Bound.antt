-- Searches whose visits are paid for by what they keep.
pub mod Different
pub mod GoodSteps
pub mod Wholes
pub mod Goods
