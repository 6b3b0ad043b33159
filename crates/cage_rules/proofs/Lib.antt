pub mod Must
pub mod Rays
pub mod Entries
pub mod PawnEntries
pub mod Arrivals
pub mod Stays
pub mod Histories
pub mod FrozenLabels
pub mod WalledGames
pub mod Tested
pub mod Filling
pub mod SetAlgebra
pub mod Shifts
pub mod Near
pub mod Adjacent
pub mod Loose
mod Sorting
pub mod Greatest
pub mod Existing
pub mod Beginners
pub mod Regions
pub mod Walls
pub mod Spread
mod Struck
pub mod Goings
pub mod Roamers
pub mod Gone
pub mod Gains
mod Examples
pub mod Refuted
