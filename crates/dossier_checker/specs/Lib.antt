pub mod DossierAnswers
pub mod DossierReading
pub mod WholeDossiers
pub mod Remaining
pub mod StageAnswers
pub mod ReadingParts
pub use Rattle.dossier_text.specs.Proving
