mod Examples
pub mod Children
pub mod Walks
pub mod Written
pub mod Proofs
pub mod Sound
pub mod OneWalk
pub mod OneText
pub mod Unbarred
pub mod Unlisted
pub mod Contradicted
pub mod Opening
pub mod Taking
pub mod Counted
pub mod Settling
pub mod TreeLines
pub mod Answering
mod ReasonsSettled
mod AskSettled
mod OneRest
pub mod Halting
pub mod Pieces
pub mod Feeding
pub mod SketchNumbers
pub mod SketchPlaces
pub mod SketchDue
pub mod SketchWalked
pub mod SketchSteps
pub mod Stopping
pub mod SketchTrees
pub mod SketchTaking
pub mod SketchNodes
pub mod SketchRests
