pub mod Statuses
pub mod Limits
pub mod Inputs
pub mod Checks
pub mod Questions
pub mod Plays
pub mod Statements
pub mod Sans
pub mod Spells
pub mod Solves
pub mod Settles
pub mod Unmoves
pub mod Verdicts
pub mod Studies
pub mod Reports
pub mod Trees
pub mod Lengths
pub mod AtLeasts
pub mod Lines
pub mod Dossiers
pub mod Explains
pub mod Samples
pub mod Forms
pub mod Told
pub use Rattle.position_report.specs.Facts
pub use Rattle.position_report.specs.Studies as DiagramStudyStudies
pub use Rattle.position_report.specs.Reports as PositionReports
pub use Rattle.position_report.specs.Settlements
pub use Rattle.position_report.specs.Prose
pub use Rattle.position_report.specs.Answers
pub use Rattle.position_report.specs.Plain
pub use Rattle.position_report.specs.Refutable
pub use Rattle.position_report.specs.SearchSizes
pub use Rattle.position_report.specs.Lines as ClaimSearchLines
pub use Rattle.dossier_checker.specs.DossierAnswers
pub use Rattle.dossier_checker.specs.Proving
