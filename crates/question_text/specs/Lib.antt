pub mod InputLines
pub mod Questions
pub mod Positions
pub mod Heads
