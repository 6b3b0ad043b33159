mod Examples
pub mod Games
pub mod Legality
pub mod Kings
pub mod EnPassant
pub mod Doubles
pub mod Clocks
pub mod Standing
pub mod Ends
pub mod Attacked
pub mod Ways
pub mod Skipped
pub mod Order
pub mod NoPawns
pub mod Left
pub mod KingSets
pub mod Passed
pub use Rattle.ep_history.proofs.Captured
