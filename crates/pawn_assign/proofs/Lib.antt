pub mod OnePawn
pub mod EachPawn
pub mod Ascending
pub mod Aside
mod Examples
