use Rattle.std.proofs.Common.{◌≡◌, ◌+◌, length}
use Rattle.unmove_gen.specs.Listed.{unmoves}
use Rattle.tree_browser.proofs.notes.count_unmoves.Given as goal

abbrev pub invariant-loop-left : goal.invariant-loop-left
invariant-loop-left l = l.number + length l.left ≡ length (unmoves l.query)

abbrev pub decreases-loop-left : goal.decreases-loop-left
decreases-loop-left l = length l.left
