use Rattle.std.proofs.Common.{◌≡◌, ◌++◌, map, take}
use Rattle.std.specs.Prelude.{codes}
use Rattle.board_base.specs.Texts.{square_text}
use Rattle.proof_story.specs.Rendering.{parted}
use Rattle.proof_story.proofs.rendering.push_origins.Given as goal

abbrev pub invariant-loop-i : goal.invariant-loop-i
invariant-loop-i l = l.out.items ≡ l.fn.out.items ++ parted (codes "/") (map square_text (take l.i l.origins))
