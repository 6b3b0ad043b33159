pub mod Ledger
pub mod Files
