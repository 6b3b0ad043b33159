pub use Rattle.sketch_found.specs.Plain
pub use Rattle.sketch_found.specs.declared.found.FoundSketch
pub use Rattle.sketch_found.specs.Roots
pub use Rattle.sketch_found.specs.Found
pub use Rattle.sketch_found.specs.Proofs
