pub mod Captures
pub mod Gathered
pub mod Few
pub mod AllRights
