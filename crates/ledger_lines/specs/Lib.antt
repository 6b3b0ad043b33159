pub mod Losses
pub mod Facts
pub mod Known
pub mod Slants
pub mod Lines
pub mod LineTexts
pub mod SameLosses
