pub mod PlainBodies
pub mod SameFiles
pub mod Supporting
pub mod Unsketched
pub use Rattle.cert_checker.proofs.Sound
pub use Rattle.cert_checker.proofs.Contradicted
