pub mod WordLemmas
pub mod PriceTexts
pub mod PriceWords
pub mod PricesWritten
pub mod OneText
