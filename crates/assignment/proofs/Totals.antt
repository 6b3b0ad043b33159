-- Sums of the first so many numbers.
use Rattle.std.proofs.Common.{◌≡◌, ℕ, ◌+◌, ◌<◌, List, [], ◌∷◌, ◌++◌, length, slice_index_or, take, pos, ◌+ℤ◌, ap, ◌∙◌, arith}
use Rattle.std.specs.Prelude.{ℤ}
use Rattle.std.proofs.lemmas.Int.{ints}
use Rattle.std.proofs.lemmas.List.{take_more}
use Rattle.assignment.specs.Assignments.{total}

total-push : (xs : List ℤ) (y : ℤ) → total (xs ++ y ∷ []) ≡ (total xs +ℤ y)
total-push [] y = omega (arith, ints)
total-push (x ∷ xs) y = let rest = total-push xs y in omega (arith, ints)

pub total-more : (xs : List ℤ) (i : ℕ) → i < length xs → total (take (i + 1) xs) ≡ (total (take i xs) +ℤ slice_index_or xs i (pos 0))
total-more xs i lt = ap total (take_more xs i (pos 0) lt) ∙ total-push (take i xs) (slice_index_or xs i (pos 0))
