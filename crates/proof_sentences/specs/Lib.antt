pub mod Phrases
pub mod Sentences
pub mod Firsts
pub mod Lessened
pub mod Reasons
