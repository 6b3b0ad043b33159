use Rattle.std.proofs.Common.{◌+◌, ◌*◌}
use Rattle.cert_text.specs.Sizes.{size, size_all}
use Rattle.cert_text.specs.Seen.{tree_of}
use Rattle.price_sharing.specs.Repriced.{AreRepriced}
use Rattle.price_sharing.proofs.FirstKids.{first_kids}
use Rattle.price_sharing.proofs.sharing.+sharing.Given as goal

abbrev pub decreases-shared_kid : goal.decreases-shared_kid
decreases-shared_kid l = 2 * size (tree_of l.node.now) + 1

abbrev pub decreases-shared_all : goal.decreases-shared_all
decreases-shared_all l = 2 * size_all l.kids.now

abbrev pub decreases-shared : goal.decreases-shared
decreases-shared l = 2 * size (tree_of l.node.now)

abbrev pub invariant-shared_all-loop-i : goal.invariant-shared_all-loop-i
invariant-shared_all-loop-i l = AreRepriced (first_kids l.kids l.i) l.copies l.query l.kids
