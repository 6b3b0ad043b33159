use Rattle.std.proofs.Common.{◌≡◌, ◌<◌, ℕ, length, slice_index}
use Rattle.ledger_pairings.proofs.exchanges.filled.Given as goal

abbrev pub invariant-loop-r : goal.invariant-loop-r
invariant-loop-r l = record {
  size : length l.filled ≡ 16;
  same : (k : ℕ) → k < l.r → slice_index l.filled k ≡ slice_index l.numbers k;
}
