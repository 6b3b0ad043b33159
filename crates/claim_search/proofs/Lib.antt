pub mod Unreached
pub mod Deciding
