use Rattle.figures.proofs.Singles.{Fixed}
use Rattle.figures.proofs.sketches.fixed_squares.Given as goal

abbrev pub invariant-loop-figure : goal.invariant-loop-figure
invariant-loop-figure l = Fixed l.figure-items l.figure-index l.fixed
