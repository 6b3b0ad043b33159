pub mod Values
pub mod Shorts
pub mod Goings
pub mod Cursors
pub mod Nests
pub mod Walks
pub use Rattle.sketch_steps.specs.Places
