use Rattle.std.proofs.Common.{◌≡◌, ◌++◌, map, take}
use Rattle.std.specs.Prelude.{codes}
use Rattle.proof_story.specs.Rendering.{way_text, parted}
use Rattle.proof_story.proofs.rendering.push_ways.Given as goal

abbrev pub invariant-loop-i : goal.invariant-loop-i
invariant-loop-i l = l.out.items ≡ l.fn.out.items ++ parted (codes ", ") (map (way_text l.board l.sign) (take l.i l.ways))
