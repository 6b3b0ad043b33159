pub mod Rests
pub mod Fair
