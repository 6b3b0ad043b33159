use Rattle.sketch_text.proofs.Written.{FiguresWritten}
use Rattle.sketch_text.proofs.writing.push_figures.Given as goal

abbrev pub invariant-loop-figure : goal.invariant-loop-figure
invariant-loop-figure l = FiguresWritten l.figures l.figure-index l.fn.out.items l.out.items
