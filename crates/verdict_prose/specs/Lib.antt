pub mod Verdicts
pub mod LastMoves
pub mod Sentences
pub mod Moves
pub mod Choices
