use Rattle.std.proofs.Common.{ℕ, ◌<◌}
use Rattle.proof_story.specs.Reading.{IsNumbered}
use Rattle.proof_story.proofs.checking.are_numbered.Given as goal

abbrev pub invariant-loop-i : goal.invariant-loop-i
invariant-loop-i l = (n : ℕ) → n < l.i → IsNumbered l.story n
