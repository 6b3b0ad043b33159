pub mod FrozenSets
pub mod LeastZones
pub mod Wide
pub mod Entries
pub mod Paces
pub mod Pins
pub mod Begun
pub mod Backed
pub use Rattle.past_account.specs.Account
pub use Rattle.past_account.specs.Closes
pub use Rattle.past_account.specs.Frozen
pub use Rattle.past_account.specs.Limits
pub use Rattle.past_account.specs.Zones
pub use Rattle.cage_rules.specs.Frozen as CageRulesFrozen
pub use Rattle.cage_rules.specs.Sets
