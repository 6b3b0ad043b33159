pub mod SetRules
pub mod Supports
pub mod Greatest
pub mod Left
pub mod Stayed
pub mod Lines
