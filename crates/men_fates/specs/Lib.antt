pub mod Ways
pub mod Deeds
pub mod Fates
