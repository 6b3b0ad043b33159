use Rattle.std.proofs.Common.{ℕ, ◌+◌, ◌<◌}
use Rattle.std.specs.Prelude.{IsTrue}
use Rattle.proof_story.specs.Reading.{comes_before}
use Rattle.proof_story.specs.Rendering.{number_at}
use Rattle.proof_story.proofs.checking.are_ordered.Given as goal

abbrev pub invariant-loop-i : goal.invariant-loop-i
invariant-loop-i l = (n : ℕ) → n + 1 < l.i → IsTrue (comes_before (number_at l.story n) (number_at l.story (n + 1)))
