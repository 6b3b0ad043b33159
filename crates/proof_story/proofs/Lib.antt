mod Wraps
pub mod Looks
pub mod Parts
pub mod Checks
pub mod References
