use Rattle.std.proofs.Common.{◌≡◌, ◌<◌, ℕ, true, false, get_or, length, slice_index_or}
use Rattle.price_search.proofs.flat_grounds.are_homes.Given as goal

abbrev pub invariant-loop-i : goal.invariant-loop-i
invariant-loop-i l = record {
  within : (k : ℕ) → k < l.i → get_or l.homes k 0 < 16;
  apart : (j k : ℕ) → k < l.i → j < k → get_or l.homes j 0 ≡ get_or l.homes k 0 → ⊥;
  marked : (k : ℕ) → k < l.i → slice_index_or l.seen (get_or l.homes k 0) false ≡ true;
  whole : length l.seen ≡ 16;
}
