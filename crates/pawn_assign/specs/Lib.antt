pub mod PawnCosts
pub mod Rows
