use Rattle.assignment.proofs.LeastSlack.{IsBestOfRow}
use Rattle.assignment.proofs.nearest.nearest_to_row.Given as goal

abbrev pub invariant-loop-to : goal.invariant-loop-to
invariant-loop-to g l = IsBestOfRow l.costs g.row.W l.p l.k l.m l.to l.best
