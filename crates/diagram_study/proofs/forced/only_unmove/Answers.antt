use Rattle.std.proofs.Common.{sym, ◌∙◌}
use Rattle.diagram_study.proofs.Forcing.{only_first}
use Rattle.diagram_study.proofs.forced.only_unmove.Goals as goal

pub returns-then-len-eq1 : goal.returns-then-len-eq1
returns-then-len-eq1 c = rw c.get.ensures (only_first c.args.left.now (sym c.len.ensures ∙ c.if-len-eq1.true))
