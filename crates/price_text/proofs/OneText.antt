-- Prices have one text.
use Rattle.std.proofs.Common.{◌≡◌, ℕ, List, Some, ap, ◌∙◌}
use Rattle.std.specs.Prelude.{◌↔◌, IsTrue}
use Rattle.capture_prices.specs.Prices.{PriceList, are_prices}
use Rattle.price_text.specs.PriceTexts.{prices_of, prices_text}
use Rattle.price_text.proofs.PriceTexts.{prices_back, prices_read}

pub prices_law : (text : List ℕ) (p : PriceList) → prices_of text ≡ Some p ↔ (IsTrue (are_prices p) × (text ≡ prices_text p))
prices_law text p = (λ e. let is = prices_read text p e in (is.known, is.text_is), λ k. ap prices_of k.1 ∙ prices_back p k.0)
