pub mod Tables
pub mod Assignments
pub mod Pairings
