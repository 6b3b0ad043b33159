pub mod ReachedParts
pub mod Answers
pub mod PartAnswers
pub mod Begun
