-- What is stored of the first line of a sketch.
use Rattle.std.proofs.Common.{◌≡◌, ℕ, ◌+◌, ◌-◌, ◌≤◌, List, ◌++◌, length, drop, replicate, sym, ap, ◌∙◌, subst, arith, length-append}
use Rattle.std.proofs.Math.Seq.{drop-append_seam}
use Rattle.std.proofs.lemmas.List.{drop-replicate, length-replicate}
use Rattle.sketch_text.specs.StoredHeads.{IsStored}

-- the files, written before zeros
pub IsStored-known : (prices : ℕ) (files places : List ℕ) → places ≡ files → length files ≤ 8 → IsStored (record { prices = prices; places = places ++ drop (length files) (replicate 8 0); count = length files })
IsStored-known prices files places e few =
    let fill : drop (length files) (replicate 8 0) ≡ replicate (8 - length files) 0 = drop-replicate (length files) 8 0 in
    let P : List ℕ → Type 0 = λ l. IsStored (record { prices = prices; places = l ++ drop (length files) (replicate 8 0); count = length files }) in
    subst P (sym e) (record {
      count = few;
      places = length-append files (drop (length files) (replicate 8 0)) ∙ ap (λ (l : List ℕ). length files + length l) fill ∙ ap (λ (n : ℕ). length files + n) (length-replicate (8 - length files) 0) ∙ omega (arith, few);
      rest = drop-append_seam files (drop (length files) (replicate 8 0)) ∙ fill;
    })
