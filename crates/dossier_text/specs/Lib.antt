pub mod Dossiers
pub mod Proving
pub mod HeadReading
