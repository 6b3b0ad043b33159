pub mod FirstPairings
pub mod Endings
