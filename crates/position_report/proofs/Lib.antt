mod Saying
mod Stuck
mod Telling
mod Joining
mod Playing
mod Lasting
mod Reported
mod Open
pub use Rattle.diagram_study.proofs.Truths
pub use Rattle.diagram_study.proofs.Steps
pub use Rattle.claim_search.proofs.Unreached
