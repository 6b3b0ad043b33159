use Rattle.std.proofs.Common.{◌∙◌, arith}
use Rattle.sketch_walk.proofs.Nesting.{place-after, place-last}
use Rattle.sketch_walk.proofs.cursors.past_place.Goals as goal

pub returns-then-c-count-clause-left : goal.returns-then-c-count-clause-left
returns-then-c-count-clause-left c = λ finds low. place-after finds c.args.count c.args.c low (omega arith)

pub returns-clause-left : goal.returns-clause-left
returns-clause-left c = λ finds low. c.past_victim.ensures.left finds c.args.count low ∙ place-last finds c.args.count c.args.c (omega arith)
