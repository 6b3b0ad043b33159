pub mod Found
pub mod Learned
pub mod Grown
pub mod Nothing
pub mod Closing
