pub mod Comers
pub mod Placing
pub mod Accesses
pub mod Pins
pub mod Reached
pub mod NoZones
pub mod InZones
pub mod Rooms
pub mod Losses
pub mod Sides
pub mod Closing
pub mod Marking
pub mod Closed
pub mod Refutes
mod Examples
mod FrozenExamples
mod QueryExamples
pub use Rattle.past_sketches.proofs.Changed
pub use Rattle.past_sketches.proofs.Order
pub use Rattle.past_sketches.proofs.Sketches
pub use Rattle.cage_rules.proofs.Filling
pub use Rattle.cage_rules.proofs.Tested
pub use Rattle.past_sketches.proofs.Queries
pub use Rattle.past_sketches.proofs.Listed
