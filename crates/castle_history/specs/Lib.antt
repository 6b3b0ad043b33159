pub mod Homes
pub mod TakenBack
