pub mod Injected
pub mod Bounds
pub mod Changed
