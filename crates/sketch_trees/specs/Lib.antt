pub use Rattle.sketch_node.specs.Nodes
