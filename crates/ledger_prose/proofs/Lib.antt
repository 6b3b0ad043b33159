pub mod EachSentence
pub mod Listing
pub mod Newer
pub mod Resting
pub mod Saying
pub mod Spacing
