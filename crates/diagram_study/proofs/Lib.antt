pub mod Plain
pub mod Leaving
pub mod LastMoves
pub mod Looking
pub mod JoinedTrees
pub mod Forcing
pub mod Telling
pub mod Castlings
pub mod Gathered
pub mod Truths
pub mod OneMove
pub mod Seeking
mod Holding
pub use Rattle.claim_findings.proofs.Steps
pub use Rattle.claim_findings.proofs.OpenFronts
