use Rattle.std.proofs.Common.{◌≡◌, ◌++◌, drop}
use Rattle.proof_story.specs.Rendering.{rows_from}
use Rattle.proof_story.proofs.rendering.push_others.Given as goal

abbrev pub invariant-loop-i : goal.invariant-loop-i
invariant-loop-i l = l.out.items ++ rows_from l.story l.line.items (drop l.i l.others) ≡ l.fn.out.items ++ rows_from l.story l.fn.line.items l.others
