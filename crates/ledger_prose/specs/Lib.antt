pub mod Sentences
pub mod Numbers
pub mod Words
pub mod Saying
pub mod News
