use Rattle.assignment.specs.Pairings.{IsRaised}
use Rattle.assignment.proofs.pairing.raise.Given as goal

abbrev pub invariant-loop-i : goal.invariant-loop-i
invariant-loop-i g l = IsRaised l.from l.i l.by l.initial.numbers l.numbers
