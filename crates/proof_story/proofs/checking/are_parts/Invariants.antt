use Rattle.std.proofs.Common.{◌≡◌, ℕ, ◌<◌}
use Rattle.std.specs.Prelude.{Some, slice_get}
use Rattle.proof_story.specs.Reading.{IsPartAt}
use Rattle.proof_story.proofs.checking.are_parts.Given as goal

abbrev pub invariant-loop-k : goal.invariant-loop-k
invariant-loop-k l = (n : ℕ) → n < l.k → (j : ℕ) → slice_get l.below n ≡ Some j → IsPartAt l.story l.whole j n
