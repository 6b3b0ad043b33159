use Rattle.std.proofs.Common.{◌≡◌, length}
use Rattle.ledger_pairings.proofs.rests.dues_of.Given as goal

abbrev pub invariant-loop-r : goal.invariant-loop-r
invariant-loop-r l = length l.dues ≡ 16
