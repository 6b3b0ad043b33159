use Rattle.std.proofs.Common.{◌≡◌, drop}
use Rattle.proof_story.specs.Story.{walk}
use Rattle.proof_story.proofs.reading.walked.Given as goal

abbrev pub invariant-loop-k : goal.invariant-loop-k
invariant-loop-k l = walk l.story l.at (drop l.k l.path) ≡ walk l.story 0 l.path
