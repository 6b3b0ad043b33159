use Rattle.std.proofs.Common.{◌≡◌, ◌<◌, ℕ, length}
use Rattle.assignment.specs.Tables.{cost_at}
use Rattle.ledger_pairings.specs.Rests.{IsRest}
use Rattle.ledger_pairings.proofs.rests.rests_of.Given as goal

abbrev pub invariant-loop-i : goal.invariant-loop-i
invariant-loop-i l = record {
  size : length l.rests ≡ 16;
  done : (k j : ℕ) → k < l.i → j < 16 → IsRest l.rows k j (cost_at l.rests k j);
}
