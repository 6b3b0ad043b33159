use Rattle.std.proofs.Common.{ℕ, ◌<◌}
use Rattle.proof_story.specs.Reading.{RefersBack}
use Rattle.proof_story.proofs.checking.all_refer_back.Given as goal

abbrev pub invariant-loop-i : goal.invariant-loop-i
invariant-loop-i l = (n : ℕ) → n < l.i → RefersBack l.story n
