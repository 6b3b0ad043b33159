pub mod Heads
pub mod Labels
pub mod Nodes
pub mod Bodies
pub mod Paragraphs
pub mod Prose
pub mod Runs
pub mod Standing
