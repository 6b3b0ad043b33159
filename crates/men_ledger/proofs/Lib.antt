mod Examples
pub mod Keyed
pub mod Flat
pub mod Lines
pub mod Courses
pub mod Balance
pub mod Facing
pub mod Gates
pub mod Closing
pub mod Fallen
pub mod PawnTolls
