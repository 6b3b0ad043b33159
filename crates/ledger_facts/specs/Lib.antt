pub mod Supposed
pub mod Accounts
pub mod Refuted
pub mod Lines
