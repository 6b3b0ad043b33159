pub mod Crowding
pub mod Denying
