use Rattle.std.proofs.Common.{◌≡◌, ◌++◌}
use Rattle.std.specs.List.{concat}
use Rattle.cert_text.specs.Sizes.{rest_of, size, size_all}
use Rattle.cert_text.specs.Seen.{tree_of}
use Rattle.cert_text.specs.Written.{lines_of}
use Rattle.cert_text.proofs.cert_writing.+writing.Given as goal

abbrev pub decreases-push_below : goal.decreases-push_below
decreases-push_below l = size (tree_of l.node.now)

abbrev pub decreases-push_kids : goal.decreases-push_kids
decreases-push_kids l = size_all l.kids.now

abbrev pub invariant-push_kids-loop-i : goal.invariant-push_kids-loop-i
invariant-push_kids-loop-i l = l.out.items ++ concat (lines_of (rest_of l.kids l.i)) ≡ l.fn.out.items ++ concat (lines_of l.kids)
