use Rattle.std.proofs.Common.{◌≡◌, ℕ, ◌<◌, length}
use Rattle.std.specs.Prelude.{slice_index}
use Rattle.ledger_told.specs.Due.{told_on}
use Rattle.ledger_told.proofs.classes.told_on_each.Given as goal

abbrev pub invariant-loop-k : goal.invariant-loop-k
invariant-loop-k l = record {
  size : length l.numbers ≡ 16;
  done : (k : ℕ) → k < l.k → slice_index l.numbers k ≡ told_on l.query l.ledger l.side k;
}
