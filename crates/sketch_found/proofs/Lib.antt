pub mod FewFigures
pub mod OneNode
pub mod Within
pub use Rattle.sketch_checker.proofs.Going
