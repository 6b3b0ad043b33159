use Rattle.sketch_sets.proofs.Clashing.{Seen}
use Rattle.sketch_sets.proofs.checks.has_two.Given as goal

abbrev pub invariant-loop-figure : goal.invariant-loop-figure
invariant-loop-figure l = Seen l.figure-items l.figure-index l.seen
