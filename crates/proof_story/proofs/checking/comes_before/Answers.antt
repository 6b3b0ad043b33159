use Rattle.std.proofs.Common.{arith}
use Rattle.proof_story.specs.Reading.{comes_before}
use Rattle.proof_story.proofs.Checks.{before-ended, before-none}
use Rattle.proof_story.proofs.checking.comes_before.Goals as goal

pub returns-then-i-a : goal.returns-then-i-a
returns-then-i-a c =
    before-ended c.args.a.now c.args.b.now c.loop-i.i (comes_before c.args.a.now c.args.b.now) (omega arith) c.loop-i-test.true c.loop-i.invariant.left

pub returns : goal.returns
returns c = before-none c.args.a.now c.args.b.now c.loop-i.i (comes_before c.args.a.now c.args.b.now) c.loop-i-test.false c.loop-i.invariant.left
