pub mod Closed
pub mod Left
pub mod Tested
pub mod Larger
mod Best
pub mod Homes
pub mod Unreached
pub mod Settled
pub mod EachLine
pub mod Alive
pub mod AtHome
pub mod OwnFiles
