use Rattle.std.proofs.Common.{◌≡◌}
use Rattle.cert_text.specs.Sizes.{size, size_all}
use Rattle.cert_text.specs.Seen.{tree_of}
use Rattle.price_sharing.proofs.FirstKids.{first_kids}
use Rattle.retro_search.proofs.copying.+copying.Given as goal

abbrev pub decreases-copied : goal.decreases-copied
decreases-copied l = size (tree_of l.node.now)

abbrev pub decreases-copied_all : goal.decreases-copied_all
decreases-copied_all l = size_all l.kids.now

abbrev pub invariant-copied_all-loop-i : goal.invariant-copied_all-loop-i
invariant-copied_all-loop-i l = l.copies ≡ first_kids l.kids l.i
