use Rattle.std.proofs.Common.{◌≡◌, ◌++◌, map, take}
use Rattle.std.specs.Prelude.{codes}
use Rattle.proof_story.specs.Rendering.{parted}
use Rattle.ledger_prose.specs.Words.{way_words}
use Rattle.ledger_prose.proofs.captures.push_list.Given as goal

abbrev pub invariant-loop-i : goal.invariant-loop-i
invariant-loop-i l = l.out.items ≡ l.fn.out.items ++ parted (codes ", ") (map (way_words l.query l.single) (take l.i l.ways))
