use Rattle.std.proofs.Common.{◌++◌}
use Rattle.proof_story.specs.Rendering.{other_kinds}
use Rattle.proof_story.proofs.Parts.{kinds-step, kinds-whole}
use Rattle.proof_story.proofs.rendering.push_other_kinds.Goals as goal

pub loop-i-preserved : goal.loop-i-preserved
loop-i-preserved c =
    kinds-step c.args.kinds.now c.loop-i.i _ c.loop-i.out.items _ _ (c.args.out.now.items ++ other_kinds c.args.kinds.now) c.loop-i-test.true (rw c.before_kind.ensures at c.in_ok-say.ensures) (rw c.kind_word.ensures at c.in_ok-say-2.ensures) c.loop-i.invariant

pub returns : goal.returns
returns c = kinds-whole c.args.kinds.now c.loop-i.i c.loop-i.out.items (c.args.out.now.items ++ other_kinds c.args.kinds.now) c.loop-i-test.false c.loop-i.invariant
