use Rattle.std.proofs.Common.{take}
use Rattle.command_answers.specs.Verdicts.{Each, IsSettled}
use Rattle.command_answers.proofs.verdicts.decide_all.Given as goal

abbrev pub invariant-loop-right : goal.invariant-loop-right
invariant-loop-right l = Each (IsSettled l.position.query l.limits.depth l.limits.nodes) (take l.right-index l.rights) l.all.items
