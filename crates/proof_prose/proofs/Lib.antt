pub mod Runs
pub mod Movers
pub mod Trees
pub mod Paths
