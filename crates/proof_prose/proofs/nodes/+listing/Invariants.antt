use Rattle.std.proofs.Common.{◌≡◌, [], ◌∷◌, ◌++◌, ◌+◌, reverse}
use Rattle.cert_text.specs.Sizes.{rest_of, size, size_all}
use Rattle.cert_text.specs.Seen.{tree_of}
use Rattle.proof_prose.specs.Nodes.{kid_nodes}
use Rattle.proof_prose.proofs.nodes.+listing.Given as goal

abbrev pub decreases-push_below : goal.decreases-push_below
decreases-push_below l = size (tree_of l.node.now)

abbrev pub decreases-push_kids : goal.decreases-push_kids
decreases-push_kids l = size_all l.kids.now

abbrev pub invariant-push_kids-loop-i : goal.invariant-push_kids-loop-i
invariant-push_kids-loop-i l = record {
  nodes : l.out.items ++ kid_nodes l.prefix l.path l.query (reverse l.fn.ancestors.items) (l.i + 1) (rest_of l.kids l.i) ≡ l.fn.out.items ++ kid_nodes l.prefix l.path l.query (reverse l.fn.ancestors.items) 1 l.kids;
  kept : l.ancestors.items ≡ l.fn.ancestors.items ++ l.query ∷ [];
}
