pub mod Due
pub mod Told
pub mod Held
pub use Rattle.ledger_lines.specs.declared.lines.Line
