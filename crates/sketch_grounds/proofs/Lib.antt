mod Entering
mod Pacing
mod Pruning
pub mod Freezing
pub mod Beginning
mod Backing
mod EachSet
mod Pairs
pub mod Filtered
pub mod Joining
pub use Rattle.past_account.proofs.NoZones
pub use Rattle.past_account.proofs.Refutes
pub use Rattle.cage_rules.proofs.SetAlgebra
pub use Rattle.past_account.proofs.Accesses
