use Rattle.std.proofs.Common.{ℕ, arith, below_more}
use Rattle.proof_story.specs.Reading.{IsNumbered}
use Rattle.proof_story.proofs.checking.are_numbered.Goals as goal

pub loop-i-preserved : goal.loop-i-preserved
loop-i-preserved c = below_more (λ (n : ℕ). IsNumbered c.args.story.now n) c.loop-i.i c.loop-i.invariant (c.is_numbered.ensures c.if-not-is_numbered.false)

pub returns : goal.returns
returns c = λ yes i inside. c.loop-i.invariant i (omega (arith, inside, c.loop-i-test.false))
