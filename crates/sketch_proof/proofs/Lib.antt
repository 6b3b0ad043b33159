pub mod Whole
pub mod Grounds
pub mod Standing
pub mod Sound
pub use Rattle.sketch_node.proofs.Least
pub use Rattle.sketch_node.proofs.Refuting
pub use Rattle.sketch_node.proofs.Rowed
pub use Rattle.sketch_node.proofs.Refutes
