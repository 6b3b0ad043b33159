pub mod Repriced
pub mod Proved
pub mod Children
