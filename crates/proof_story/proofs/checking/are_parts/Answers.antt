use Rattle.std.proofs.Common.{◌≡◌, ℕ, ◌<◌, length, subst, arith, below_more}
use Rattle.std.specs.Prelude.{Some, slice_get}
use Rattle.std.proofs.lemmas.Option.{get_or_from_slice_get, slice_get_within}
use Rattle.proof_story.specs.Reading.{IsPartAt}
use Rattle.proof_story.proofs.checking.are_parts.Goals as goal

pub loop-k-preserved : goal.loop-k-preserved
loop-k-preserved c =
    below_more (λ (n : ℕ). (j : ℕ) → slice_get c.args.below.now n ≡ Some j → IsPartAt c.args.story.now c.args.whole.now j n) c.loop-k.k c.loop-k.invariant (λ j e.
    subst (λ (n : ℕ). IsPartAt c.args.story.now c.args.whole.now n c.loop-k.k) (get_or_from_slice_get c.args.below.now c.loop-k.k j 0 e) (c.is_part_at.ensures c.if-not-is_part_at.false))

pub returns : goal.returns
returns c = λ yes k j e. let inside : k < length c.args.below.now = slice_get_within c.args.below.now k j e in c.loop-k.invariant k (omega (arith, c.loop-k-test.false)) j e
