-- How large a certificate's tree is.
use Rattle.std.specs.Prelude.{ℕ, suc, ◌+◌}
use Rattle.cert_text.specs.Tree.{Tree, Forest, rule, back, expand, sketch, none, more}

abbrev mutual
  -- how many nodes the tree has, each of which is one line of a certificate; those of a sketch are none of them
  pub nodes_in : Tree → ℕ
  nodes_in (rule r) = 1
  nodes_in (back k) = 1
  nodes_in (expand kids) = suc (nodes_in_all kids)
  nodes_in (sketch b) = 1

  -- how many nodes these trees have together
  pub nodes_in_all : Forest → ℕ
  nodes_in_all none = 0
  nodes_in_all (more label tree rest) = nodes_in tree + nodes_in_all rest
