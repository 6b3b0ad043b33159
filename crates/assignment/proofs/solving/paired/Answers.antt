use Rattle.assignment.proofs.solving.paired.Goals as goal

pub loop-n-preserved : goal.loop-n-preserved
loop-n-preserved g c = c.hand_on.ensures c.args.costs.now c.loop-n.n c.grow-path.ensures
