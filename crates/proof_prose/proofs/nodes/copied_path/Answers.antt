use Rattle.std.proofs.Common.{arith}
use Rattle.proof_prose.proofs.Paths.{copied-step}
use Rattle.proof_prose.proofs.nodes.copied_path.Goals as goal

pub loop-i-preserved : goal.loop-i-preserved
loop-i-preserved c =
    copied-step c.args.path.now c.loop-i.i c.loop-i.own _ (omega (arith, c.loop-i-test.true, c.len-i-end.ensures)) c.loop-i.invariant (rw c.get.ensures at c.in_ok-push_unmove.ensures)
