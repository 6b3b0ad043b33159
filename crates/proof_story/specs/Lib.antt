pub mod Movers
pub mod Reading
pub mod Rendering
pub mod Rows
pub mod Story
pub mod Needed
