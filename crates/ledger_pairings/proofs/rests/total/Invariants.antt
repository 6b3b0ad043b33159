use Rattle.std.proofs.Common.{◌≡◌, ◌*◌, ◌≤◌, take}
use Rattle.std.specs.Prelude.{sum}
use Rattle.ledger_pairings.proofs.rests.total.Given as goal

abbrev pub invariant-loop-r : goal.invariant-loop-r
invariant-loop-r l = record {
  value : l.sum ≡ sum (take l.r l.numbers);
  small : l.sum ≤ 4294967295 * l.r;
}
