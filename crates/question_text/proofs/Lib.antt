pub mod FirstLines
pub mod OneQuestion
