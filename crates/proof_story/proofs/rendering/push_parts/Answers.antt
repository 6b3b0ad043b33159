use Rattle.std.specs.Prelude.{codes}
use Rattle.std.proofs.Common.{get_or}
use Rattle.std.proofs.lemmas.List.{get_or_default}
use Rattle.std.specs.Fmt.{decimal}
use Rattle.proof_story.proofs.Parts.{parted-step, parted-whole}
use Rattle.proof_story.proofs.rendering.push_parts.Goals as goal

pub loop-i-preserved : goal.loop-i-preserved
loop-i-preserved c =
    parted-step (decimal) (codes ".") c.args.number.now c.loop-i.i (get_or c.args.number.now c.loop-i.i 0) c.args.out.now.items c.loop-i.out.items _ _ c.loop-i-test.true
    (get_or_default c.args.number.now c.loop-i.i 0 (get_or c.args.number.now c.loop-i.i 0) c.loop-i-test.true) c.loop-i.invariant c.in_ok-push_sign.ensures c.in_ok-push_number.ensures

pub returns : goal.returns
returns c = parted-whole (decimal) (codes ".") c.args.number.now c.loop-i.i c.args.out.now.items c.loop-i.out.items c.loop-i-test.false c.loop-i.invariant
