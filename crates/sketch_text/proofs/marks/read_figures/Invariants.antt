use Rattle.sketch_text.proofs.FiguresRead.{FiguresSoFar}
use Rattle.sketch_text.proofs.marks.read_figures.Given as goal

abbrev pub invariant-loop-n : goal.invariant-loop-n
invariant-loop-n l = FiguresSoFar l.text l.n l.least l.rest l.figures.items
