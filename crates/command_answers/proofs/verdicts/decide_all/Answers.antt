use Rattle.std.proofs.Common.{arith}
use Rattle.command_answers.specs.Verdicts.{IsSettled}
use Rattle.command_answers.proofs.Settled.{each-fewer, each-more}
use Rattle.command_answers.proofs.verdicts.decide_all.Goals as goal

pub push-requires : goal.push-requires
push-requires c = (omega arith, omega (arith, each-fewer _ c.args.rights.now c.loop-right.right-index c.loop-right.all.items (omega arith) c.loop-right.invariant, c.requires))

pub loop-right-preserved : goal.loop-right-preserved
loop-right-preserved c =
    let settles = rw c.in-Some.is at c.in_ok-settled.ensures in
    each-more (IsSettled c.args.position.now.query c.args.limits.depth c.args.limits.nodes) c.args.rights.now c.loop-right.right-index _ _ _ _ (omega arith) c.right-item.is c.loop-right.invariant settles c.push.ensures.items
