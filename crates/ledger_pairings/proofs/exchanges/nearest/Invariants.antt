use Rattle.std.proofs.Common.{◌<◌}
use Rattle.ledger_pairings.proofs.exchanges.nearest.Given as goal

abbrev pub invariant-loop-c : goal.invariant-loop-c
invariant-loop-c l = l.best < 16
