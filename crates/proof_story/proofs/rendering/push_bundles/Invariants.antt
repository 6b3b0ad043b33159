use Rattle.std.proofs.Common.{◌≡◌, ◌++◌, map, take}
use Rattle.std.specs.Prelude.{codes}
use Rattle.proof_story.specs.Rendering.{bundle_text, parted}
use Rattle.proof_story.proofs.rendering.push_bundles.Given as goal

abbrev pub invariant-loop-i : goal.invariant-loop-i
invariant-loop-i l = l.out.items ≡ l.fn.out.items ++ parted (codes "; ") (map (bundle_text l.board) (take l.i l.bundles))
