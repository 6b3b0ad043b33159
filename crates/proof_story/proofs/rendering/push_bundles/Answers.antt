use Rattle.std.specs.Prelude.{codes}
use Rattle.proof_story.specs.Rendering.{bundle_text}
use Rattle.proof_story.proofs.Parts.{parted-step, parted-whole}
use Rattle.proof_story.proofs.rendering.push_bundles.Goals as goal

pub loop-i-preserved : goal.loop-i-preserved
loop-i-preserved c =
    parted-step (bundle_text c.args.board.now) (codes "; ") c.args.bundles.now c.loop-i.i _ c.args.out.now.items c.loop-i.out.items _ _ c.loop-i-test.true c.index-bundles-i.is c.loop-i.invariant c.in_ok-push_sign.ensures c.in_ok-push_bundle.ensures

pub returns : goal.returns
returns c = parted-whole (bundle_text c.args.board.now) (codes "; ") c.args.bundles.now c.loop-i.i c.args.out.now.items c.loop-i.out.items c.loop-i-test.false c.loop-i.invariant
