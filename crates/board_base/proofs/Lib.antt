mod Examples
pub mod Without
pub mod LeftOut
pub mod TextLemmas
pub mod BitSets
pub mod OneText
pub mod Ordered
pub mod Rights
pub mod KindsOfMen
pub mod Equal
pub mod Passing
pub mod EachCastle
pub mod CastleSquares
pub mod Duals
pub mod Ways
pub mod Hits
pub mod Settled
pub use Rattle.general_lemmas.proofs.Ranges
