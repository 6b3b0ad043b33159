use Rattle.std.proofs.Common.{◌≡◌, drop}
use Rattle.std.specs.List.{find}
use Rattle.proof_story.specs.Story.{is_rest}
use Rattle.proof_story.proofs.reading.rest.Given as goal

abbrev pub invariant-loop-i : goal.invariant-loop-i
invariant-loop-i l = find (is_rest l.story) (drop l.i-index l.places) ≡ find (is_rest l.story) l.places
