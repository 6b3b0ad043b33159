pub use Rattle.sketch_node.proofs.Least
