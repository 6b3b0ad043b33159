use Rattle.assignment.specs.Pairings.{IsMatched}
use Rattle.assignment.proofs.solving.paired.Given as goal

abbrev pub invariant-loop-n : goal.invariant-loop-n
invariant-loop-n g l = IsMatched l.costs g.row.W l.p l.n
