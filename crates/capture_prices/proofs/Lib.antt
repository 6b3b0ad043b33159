pub mod Stored
mod Examples
