use Rattle.std.proofs.Common.{◌≡◌, ℕ, ◌<◌, length, slice_index, slice_index_or, pos, neg_ℤ}
use Rattle.assignment.proofs.reading.turned.Given as goal

abbrev pub invariant-loop-j : goal.invariant-loop-j
invariant-loop-j g l = record {
  size : length l.turned ≡ g.row.W;
  done : (j : ℕ) → j < l.j → slice_index_or l.turned j (pos 0) ≡ neg_ℤ (pos (slice_index l.numbers (slice_index l.places j)));
}
