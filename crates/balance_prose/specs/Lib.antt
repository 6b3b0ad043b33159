pub mod Pricing
pub mod Counted
pub mod Accounts
pub mod CountWords
pub mod AccountWords
