use Rattle.std.proofs.Common.{◌∙◌, arith}
use Rattle.sketch_walk.proofs.Nesting.{way-after, way-last}
use Rattle.sketch_walk.proofs.cursors.past_way.Goals as goal

pub returns-then-c-eq3-clause-left : goal.returns-then-c-eq3-clause-left
returns-then-c-eq3-clause-left c = λ finds k low. c.past_square.ensures.left finds k low ∙ way-last finds k c.args.c (omega arith)

pub returns-clause-left : goal.returns-clause-left
returns-clause-left c = λ finds k low. way-after finds k c.args.c low (omega arith)
