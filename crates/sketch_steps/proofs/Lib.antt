pub mod Rearranging
pub mod Before
pub mod Telling
pub use Rattle.sketch_sets.proofs.Closing
pub use Rattle.sketch_sets.proofs.Under
