use Rattle.std.specs.Prelude.{codes}
use Rattle.proof_story.specs.Rendering.{way_text}
use Rattle.proof_story.proofs.Parts.{parted-step, parted-whole}
use Rattle.proof_story.proofs.rendering.push_ways.Goals as goal

pub loop-i-preserved : goal.loop-i-preserved
loop-i-preserved c =
    parted-step (way_text c.args.board.now c.args.sign) (codes ", ") c.args.ways.now c.loop-i.i _ c.args.out.now.items c.loop-i.out.items _ _ c.loop-i-test.true c.index-ways-i.is c.loop-i.invariant c.in_ok-push_sign.ensures c.in_ok-push_way.ensures

pub returns : goal.returns
returns c = parted-whole (way_text c.args.board.now c.args.sign) (codes ", ") c.args.ways.now c.loop-i.i c.args.out.now.items c.loop-i.out.items c.loop-i-test.false c.loop-i.invariant
