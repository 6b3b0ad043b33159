pub mod Sizes
pub mod Claims
pub mod Begun
pub use Rattle.retro_search.proofs.Lines
