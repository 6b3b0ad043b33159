pub mod Due
pub mod Holding
pub mod Listing
pub mod Lines
pub mod Begun
pub mod Readable
