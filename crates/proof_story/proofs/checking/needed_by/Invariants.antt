use Rattle.proof_story.specs.Needed.{AreNeeded}
use Rattle.proof_story.proofs.checking.needed_by.Given as goal

abbrev pub invariant-loop-point : goal.invariant-loop-point
invariant-loop-point l = AreNeeded l.story l.points l.needed.items
