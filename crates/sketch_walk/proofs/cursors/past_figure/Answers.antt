use Rattle.sketch_walk.proofs.Nesting.{figure-after}
use Rattle.sketch_walk.proofs.cursors.past_figure.Goals as goal

pub returns-clause-left : goal.returns-clause-left
returns-clause-left c = λ finds k. figure-after finds k c.args.c
