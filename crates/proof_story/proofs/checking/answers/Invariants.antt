use Rattle.std.proofs.Common.{take}
use Rattle.std.specs.List.{All}
use Rattle.proof_story.specs.Reading.{IsTold}
use Rattle.proof_story.proofs.checking.answers.Given as goal

abbrev pub invariant-loop-point : goal.invariant-loop-point
invariant-loop-point l = All (IsTold l.story) (take l.point-index l.points)
