use Rattle.std.proofs.Common.{◌≡◌, drop}
use Rattle.std.specs.List.{find}
use Rattle.proof_story.specs.Story.{names}
use Rattle.proof_story.proofs.reading.named.Given as goal

abbrev pub invariant-loop-i : goal.invariant-loop-i
invariant-loop-i l = find (names l.story l.u) (drop l.i-index l.places) ≡ find (names l.story l.u) l.places
