pub mod Squares
pub mod Behind
