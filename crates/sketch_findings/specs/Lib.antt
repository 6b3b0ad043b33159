pub mod Plain
pub mod Bodies
pub use Rattle.cert_checker.specs.Sketches
pub use Rattle.cert_checker.specs.Proving
pub use Rattle.cert_checker.specs.Reasons
