pub mod Words
pub mod PriceTexts
pub mod Spaced
