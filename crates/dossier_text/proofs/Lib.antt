mod Examples
pub mod CountTexts
pub mod HeadTexts
pub mod HeadReads
pub mod OneHead
pub mod PartTexts
pub mod Proofs
