use Rattle.std.proofs.Common.{◌≡◌, ◌≤◌, length, drop}
use Rattle.proof_story.specs.Reading.{comes_before}
use Rattle.proof_story.proofs.checking.comes_before.Given as goal

abbrev pub invariant-loop-i : goal.invariant-loop-i
invariant-loop-i l = record { within : l.i ≤ length l.a; left : comes_before (drop l.i l.a) (drop l.i l.b) ≡ comes_before l.a l.b }
