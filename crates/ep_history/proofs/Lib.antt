mod Examples
pub mod Captured
