use Rattle.std.specs.Prelude.{codes}
use Rattle.board_base.specs.Texts.{square_text}
use Rattle.proof_story.proofs.Parts.{parted-step, parted-whole}
use Rattle.proof_story.proofs.rendering.push_origins.Goals as goal

pub loop-i-preserved : goal.loop-i-preserved
loop-i-preserved c =
    parted-step square_text (codes "/") c.args.origins.now c.loop-i.i c.index-origins-i.result c.args.out.now.items c.loop-i.out.items _ _ c.loop-i-test.true c.index-origins-i.is c.loop-i.invariant c.in_ok-push_sign.ensures c.in_ok-push_square.ensures

pub returns : goal.returns
returns c = parted-whole square_text (codes "/") c.args.origins.now c.loop-i.i c.args.out.now.items c.loop-i.out.items c.loop-i-test.false c.loop-i.invariant
