use Rattle.std.proofs.Common.{◌∙◌, arith}
use Rattle.sketch_walk.proofs.Nesting.{victim-after, victim-last}
use Rattle.sketch_walk.proofs.cursors.past_victim.Goals as goal

pub returns-then-c-eq4-clause-left : goal.returns-then-c-eq4-clause-left
returns-then-c-eq4-clause-left c = λ finds k low. c.past_way.ensures.left finds k low ∙ victim-last finds k c.args.c (omega arith)

pub returns-clause-left : goal.returns-clause-left
returns-clause-left c = λ finds k low. victim-after finds k c.args.c low (omega arith)
