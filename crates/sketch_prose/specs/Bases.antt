-- Inner: no public clause cites this file.
use Rattle.std.specs.Prelude.{IsTrue, List}
use Rattle.std.specs.List.{Contains}
use Rattle.capture_prices.specs.Prices.{PriceList, are_prices}
use Rattle.sketch_proof.specs.Proofs.{Setting}
use Rattle.sketch_prose.specs.declared.bases.Base.{Base}

-- what a sketch stands on, with these prices
abbrev pub setting_with : Base → List PriceList → Setting
setting_with b prices = record { odds = b.odds; held = b.held; exact = b.exact; prices = prices }

-- each line of prices is one
abbrev pub AreKnown : List PriceList → Type 0
AreKnown prices = (p : PriceList) → Contains prices p → IsTrue (are_prices p)
