use Rattle.std.proofs.Common.{◌≡◌, ◌<◌, ℕ, length, slice_index}
use Rattle.ledger_pairings.specs.Rests.{IsRest}
use Rattle.ledger_pairings.proofs.rests.rests_of_row.Given as goal

abbrev pub invariant-loop-j : goal.invariant-loop-j
invariant-loop-j l = record {
  size : length l.rests ≡ 16;
  done : (k : ℕ) → k < l.j → IsRest l.rows l.i k (slice_index l.rests k);
}
