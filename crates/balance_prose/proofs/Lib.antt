pub mod Known
pub mod Sums
