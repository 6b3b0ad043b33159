pub mod Finding
pub mod Endings
