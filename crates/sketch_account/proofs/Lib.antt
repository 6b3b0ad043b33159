mod Algebra
mod Coming
mod Aiming
mod Over
mod Comers
mod RowsMade
mod Losing
mod Tabled
mod Repriced
mod Weighed
mod Plain
mod Opened
pub use Rattle.balance_rule.proofs.Rowed
pub use Rattle.sketch_grounds.proofs.Freezing
pub use Rattle.sketch_grounds.proofs.Joining
pub use Rattle.sketch_grounds.proofs.Refutes
