use Rattle.std.proofs.Common.{◌≡◌}
use Rattle.sketch_body.specs.Whole.{left_of}
use Rattle.cert_text.specs.Tree.{units_each}
use Rattle.cert_text.specs.Sizes.{rest_of, size, size_all}
use Rattle.cert_text.specs.Seen.{tree_of}
use Rattle.cert_text.proofs.formats.+units.Given as goal

abbrev pub decreases-units_left : goal.decreases-units_left
decreases-units_left l = size (tree_of l.node.now)

abbrev pub decreases-kids_left : goal.decreases-kids_left
decreases-kids_left l = size_all l.kids.now

abbrev pub invariant-kids_left-loop-i : goal.invariant-kids_left-loop-i
invariant-kids_left-loop-i l = left_of l.rest (units_each (rest_of l.kids l.i)) ≡ left_of l.left (units_each l.kids)
