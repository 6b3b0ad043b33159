use Rattle.std.proofs.Common.{take}
use Rattle.std.specs.List.{All}
use Rattle.proof_story.specs.Reading.{IsUnmixed}
use Rattle.proof_story.proofs.checking.are_unmixed.Given as goal

abbrev pub invariant-loop-way : goal.invariant-loop-way
invariant-loop-way l = All (IsUnmixed l.board) (take l.way-index l.ways)
