pub mod Found
pub mod Plain
pub use Rattle.sketch_checker.specs.Proofs
pub use Rattle.sketch_checker.specs.Roots
pub mod Ends
pub use Rattle.sketch_checker.specs.Beginning
pub use Rattle.sketch_checker.specs.Listed
