-- What is stored of prices.
use Rattle.std.proofs.Common.{◌≡◌, ℕ, ◌+◌, ◌-◌, ◌≤◌, true, List, ◌++◌, length, drop, replicate, sym, ap, ◌∙◌, subst, arith, length-append}
use Rattle.std.proofs.Math.Seq.{take-append_seam, drop-append_seam}
use Rattle.std.proofs.lemmas.List.{drop-replicate, length-replicate}
use Rattle.std.proofs.lemmas.Bool.{and_parts, leb-true}
use Rattle.capture_prices.specs.declared.prices.Gate.{Gate}
use Rattle.capture_prices.specs.Prices.{are_ascending, are_prices, priced}
use Rattle.capture_prices.specs.StoredPrices.{IsStored, no_gate}

-- prices have at most sixteen gates
pub few_gates : (white black : List ℕ) (gates : List Gate) → are_prices (priced white black gates) ≡ true → length gates ≤ 16
few_gates white black gates known = leb-true (length gates) 16 (and_parts _ _ (and_parts _ (are_ascending 0 gates) known).0).1

-- the gates, written before gates of no toll
pub IsStored-known : (white black : List ℕ) (gates places : List Gate) → places ≡ gates → are_prices (priced white black gates) ≡ true → IsStored (record { white = white; black = black; places = places ++ drop (length gates) (replicate 16 no_gate); count = length gates })
IsStored-known white black gates places e h =
    let few : length gates ≤ 16 = few_gates white black gates h in
    let fill : drop (length gates) (replicate 16 no_gate) ≡ replicate (16 - length gates) no_gate = drop-replicate (length gates) 16 no_gate in
    let P : List Gate → Type 0 = λ l. IsStored (record { white = white; black = black; places = l ++ drop (length gates) (replicate 16 no_gate); count = length gates }) in
    subst P (sym e) (record {
      count = few;
      places = length-append gates (drop (length gates) (replicate 16 no_gate)) ∙ ap (λ (l : List Gate). length gates + length l) fill ∙ ap (λ (n : ℕ). length gates + n) (length-replicate (16 - length gates) no_gate) ∙ omega (arith, few);
      rest = drop-append_seam gates (drop (length gates) (replicate 16 no_gate)) ∙ fill;
      known = ap (λ (l : List Gate). are_prices (priced white black l)) (take-append_seam gates (drop (length gates) (replicate 16 no_gate))) ∙ h;
    })
