use Rattle.std.proofs.Common.{◌≡◌, take, false}
use Rattle.std.specs.List.{list_any}
use Rattle.proof_story.specs.Story.{goes}
use Rattle.proof_story.proofs.reading.is_way.Given as goal

abbrev pub invariant-loop-way : goal.invariant-loop-way
invariant-loop-way l = list_any (goes l.u) (take l.way-index l.ways) ≡ false
