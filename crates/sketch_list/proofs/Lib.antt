pub mod Respelled
pub mod Narrowed
pub mod Placing
pub mod Listing
pub mod Twins
pub mod Before
pub mod Refuting
mod Examples
pub use Rattle.past_account.proofs.Refutes
pub use Rattle.past_account.proofs.Queries
