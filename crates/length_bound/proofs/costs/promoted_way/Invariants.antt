use Rattle.length_bound.proofs.LeastWay.{IsLeastOf}
use Rattle.length_bound.proofs.costs.promoted_way.Given as goal

abbrev pub invariant-loop-file : goal.invariant-loop-file
invariant-loop-file l = IsLeastOf l.side l.kind l.home l.s l.file l.least
