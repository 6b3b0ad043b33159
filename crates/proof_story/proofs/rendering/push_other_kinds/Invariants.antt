use Rattle.std.proofs.Common.{◌≡◌, ◌++◌, drop}
use Rattle.proof_story.specs.Rendering.{other_kinds}
use Rattle.proof_story.proofs.rendering.push_other_kinds.Given as goal

abbrev pub invariant-loop-i : goal.invariant-loop-i
invariant-loop-i l = l.out.items ++ other_kinds (drop l.i l.kinds) ≡ l.fn.out.items ++ other_kinds l.kinds
