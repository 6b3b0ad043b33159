use Rattle.cage_rules.proofs.Sorting.{Sorted}
use Rattle.cage_rules.proofs.ways.ways_of.Given as goal

abbrev pub invariant-loop-i : goal.invariant-loop-i
invariant-loop-i l = Sorted l.query l.ways l.i
