pub mod Bodies
pub mod Due
pub mod Ends
pub mod Texts
pub mod Whole
pub mod Seen
pub mod Gathered
pub mod Taken
