use Rattle.std.proofs.Common.{arith}
use Rattle.assignment.proofs.LeastSlack.{IsBestOfRow-better, IsBestOfRow-kept}
use Rattle.assignment.proofs.nearest.nearest_to_row.Goals as goal
use Rattle.assignment.proofs.nearest.nearest_to_row.Goals.{then-slack-best, else-slack-best}

pub loop-to-preserved : goal.loop-to-preserved
loop-to-preserved g c =
    elim c.if-slack-best.branch [
      | then-slack-best w ↦ IsBestOfRow-better _ _ _ _ _ _ _ _ _ c.loop-to.invariant (omega arith) (omega arith) (omega arith) c.slack-slack.ensures (omega arith) w.best-is
      | else-slack-best w ↦ IsBestOfRow-kept _ _ _ _ _ _ _ _ _ c.loop-to.invariant c.slack-slack.ensures (omega arith) w.best-is
    ]
