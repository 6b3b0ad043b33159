pub mod Hints
pub mod WordHints
pub mod Refusals
pub mod Fronts
pub mod Usage
pub mod Kinds
