pub mod Words
pub mod Phrases
pub mod Crowds
pub mod Denials
pub mod Lodging
