use Rattle.std.proofs.Common.{◌∙◌, arith}
use Rattle.sketch_walk.proofs.Nesting.{square-after, square-last}
use Rattle.sketch_walk.proofs.cursors.past_square.Goals as goal

pub returns-then-c-eq63-clause-left : goal.returns-then-c-eq63-clause-left
returns-then-c-eq63-clause-left c = λ finds k low. c.past_figure.ensures.left finds k ∙ square-last finds k c.args.c (omega arith)

pub returns-clause-left : goal.returns-clause-left
returns-clause-left c = λ finds k low. square-after finds k c.args.c low (omega arith)
