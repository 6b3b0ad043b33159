pub mod Trees
pub mod Lines
pub mod Maps
pub mod Pricing
pub mod Settled
pub mod Costs
pub mod Expansions
pub mod Sizing
pub mod Bound
pub mod Roots
pub mod SketchLines
pub mod TextSizes
pub mod SharedLines
pub mod Telling
mod Examples
pub use Rattle.sketch_findings.proofs.Contradicted
pub use Rattle.sketch_findings.proofs.Sound
pub use Rattle.sketch_findings.proofs.Unsketched
