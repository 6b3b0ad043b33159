pub mod Labels
pub mod Nodes
pub mod Marks
pub mod Trees
pub mod Heads
pub mod StoredHeads
