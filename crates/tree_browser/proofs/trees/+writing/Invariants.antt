use Rattle.std.proofs.Common.{◌≡◌, ◌+◌, ◌*◌, [], ◌∷◌, ◌++◌, length, reverse}
use Rattle.tree_browser.proofs.Written.{SoFar}
use Rattle.tree_browser.proofs.trees.+writing.Given as goal

abbrev pub decreases-write_tree : goal.decreases-write_tree
decreases-write_tree l = 2 * l.left

abbrev pub decreases-write_children : goal.decreases-write_children
decreases-write_children l = 2 * l.left + 1

abbrev pub decreases-write_children-loop-unmove : goal.decreases-write_children-loop-unmove
decreases-write_children-loop-unmove l = length l.unmoves

abbrev pub invariant-write_children-loop-unmove : goal.invariant-write_children-loop-unmove
invariant-write_children-loop-unmove l = record {
  so : SoFar l.query l.left (reverse l.fn.ancestors.items) l.unmoves l.fn.page l.page;
  kept : l.ancestors.items ≡ l.fn.ancestors.items ++ l.query ∷ [];
}
