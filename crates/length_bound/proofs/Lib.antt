pub mod Stepping
pub mod OneMan
pub mod OneMove
pub mod InGames
pub mod Bound
pub mod Direct
pub mod LeastWay
pub mod Duals
pub mod Shown
mod Examples
mod Chains
mod LengthGrammar
mod NearDuals
mod Fronts
mod LineTexts
mod LineSizes
mod FrontReads
mod Answering
mod Written
pub mod Longer
mod OneLength
