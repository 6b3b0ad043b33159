-- Inner: no public clause cites this file.
-- How prices are stored.
use Rattle.std.specs.Prelude.{◌≡◌, ◌-◌, ◌≤◌, true, ◌++◌, length, take, drop, replicate}
use Rattle.std.proofs.Common.{arith}
use Rattle.std.proofs.lemmas.List.{length-take-le}
use Rattle.general_lemmas.proofs.Rows.{filled-again}
use Rattle.capture_prices.specs.declared.prices.Gate.{Gate}
use Rattle.capture_prices.specs.declared.prices.Prices.TheInside.{Inside}
use Rattle.capture_prices.specs.Prices.{PriceList, are_prices}

-- what fills the places where no gate is
abbrev pub no_gate : Gate
no_gate = record { square = 0; toll = 0 }

-- the prices that the fields hold
abbrev pub seen : Inside → PriceList
seen a = record { white = a.white; black = a.black; gates = take a.count a.places }

-- what the fields hold
pub record IsStored (a : Inside) : Type 0 where
  pub count : a.count ≤ 16
  pub places : length a.places ≡ 16
  pub rest : drop a.count a.places ≡ replicate (16 - a.count) no_gate
  pub known : are_prices (seen a) ≡ true

-- the fields that hold these prices
abbrev pub stored : PriceList → Inside
stored p = record { white = p.white; black = p.black; places = p.gates ++ replicate (16 - length p.gates) no_gate; count = length p.gates }

-- the fields can be told from the prices that they hold
pub stored-seen : (a : Inside) → IsStored a → stored (seen a) ≡ a
stored-seen a h =
    let few : a.count ≤ length a.places = omega (arith, h.count, h.places) in
    let count : length (take a.count a.places) ≡ a.count = length-take-le a.count a.places few in
    let places : take a.count a.places ++ replicate (16 - length (take a.count a.places)) no_gate ≡ a.places = filled-again no_gate 16 a.count a.places h.count h.places h.rest in
    λ i. record { white = a.white; black = a.black; places = places i; count = count i }
