pub mod FirstKids
pub mod Children
pub mod Repriced
