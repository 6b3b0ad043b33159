pub mod Joining
pub mod Known
pub mod PawnHomes
mod SameLines
mod News
