mod Examples
pub mod WayLists
pub mod MoreDeeds
pub mod Treads
pub mod Goings
pub mod Strikes
pub mod Roads
pub mod Brought
pub mod Blows
pub mod Tombs
pub mod Lasting
