use Rattle.proof_story.proofs.Parts.{rows-step, rows-whole}
use Rattle.proof_story.proofs.rendering.push_others.Goals as goal

pub loop-i-preserved : goal.loop-i-preserved
loop-i-preserved c =
    rows-step c.args.story.now c.args.others.now c.loop-i.i _ c.loop-i.out.items c.loop-i.line.items _ _ _ c.loop-i-test.true c.index-others-i.is c.in_ok-push_next.ensures c.loop-i.invariant

pub returns : goal.returns
returns c = rows-whole c.args.story.now c.args.others.now c.loop-i.i c.loop-i.out.items c.loop-i.line.items _ c.loop-i-test.false c.loop-i.invariant
