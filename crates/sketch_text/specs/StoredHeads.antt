-- Inner: no public clause cites this file.
-- How the first line of a sketch is stored.
use Rattle.std.specs.Prelude.{◌≡◌, ◌-◌, ◌≤◌, ◌++◌, length, take, drop, replicate}
use Rattle.std.proofs.Common.{arith}
use Rattle.std.proofs.lemmas.List.{length-take-le}
use Rattle.general_lemmas.proofs.Rows.{filled-again}
use Rattle.sketch_text.specs.Heads.{Head}
use Rattle.sketch_text.specs.declared.heads.SketchHead.TheInside.{Inside}

-- what the fields say
abbrev pub seen : Inside → Head
seen a = record { prices = a.prices; files = take a.count a.places }

-- what the fields hold
pub record IsStored (a : Inside) : Type 0 where
  pub count : a.count ≤ 8
  pub places : length a.places ≡ 8
  pub rest : drop a.count a.places ≡ replicate (8 - a.count) 0

-- the fields that say this
abbrev pub stored : Head → Inside
stored h = record { prices = h.prices; places = h.files ++ replicate (8 - length h.files) 0; count = length h.files }

-- the fields can be told from what they say
pub stored-seen : (a : Inside) → IsStored a → stored (seen a) ≡ a
stored-seen a h =
    let few : a.count ≤ length a.places = omega (arith, h.count, h.places) in
    let count : length (take a.count a.places) ≡ a.count = length-take-le a.count a.places few in
    let places : take a.count a.places ++ replicate (8 - length (take a.count a.places)) 0 ≡ a.places = filled-again 0 8 a.count a.places h.count h.places h.rest in
    λ i. record { prices = a.prices; places = places i; count = count i }
