-- Trees, and what they prove.
pub mod Ancestors
pub mod Forests
pub mod LineCounts
pub mod Heights
pub mod Repriced
pub mod Fitting
pub mod Refuting
pub mod EagerTrees
