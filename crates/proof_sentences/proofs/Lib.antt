pub mod Adding
pub mod Changes
pub mod Parts
pub mod Astray
pub mod Homeless
pub mod TooMany
