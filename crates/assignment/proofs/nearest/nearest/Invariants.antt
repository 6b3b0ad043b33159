use Rattle.assignment.proofs.LeastSlack.{IsBestOfRows}
use Rattle.assignment.proofs.nearest.nearest.Given as goal

abbrev pub invariant-loop-m : goal.invariant-loop-m
invariant-loop-m g l = IsBestOfRows l.costs g.row.W l.p l.k l.m l.best
