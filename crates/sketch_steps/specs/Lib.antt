pub mod Places
pub mod Arrivals
pub mod Cleared
pub mod Stepping
pub use Rattle.sketch_sets.specs.TrimmedOut
pub use Rattle.sketch_sets.specs.Leasts
