mod Examples
pub mod LastItems
pub mod Others
pub mod Ending
pub mod Listings
pub mod StepTexts
pub mod LineTexts
pub mod Barring
pub mod Counting
