pub mod Questions
pub mod Ledgers
pub mod Contradictions
pub mod Learning
