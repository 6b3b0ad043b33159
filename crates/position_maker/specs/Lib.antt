pub mod Draws
pub mod Positions
pub mod Samples
pub mod Counted
