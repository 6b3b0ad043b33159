pub mod Rights
pub mod Verdicts
pub mod Candidates
