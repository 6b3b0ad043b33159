pub mod Refuting
pub use Rattle.sketch_list.proofs.Narrowed
