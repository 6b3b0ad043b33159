-- Inner: no public clause cites this file.
-- How proofs see the list of a node's children.
use Rattle.std.specs.Prelude.{List, [], ◌∷◌}
use Rattle.cert_text.specs.Tree.{Forest, none, more}
use Rattle.cert_text.specs.declared.nodes.Kid.{Kid}
use Rattle.cert_text.specs.Seen.{tree_of}

-- the labels and trees of a list of children
abbrev pub forest_of : List Kid → Forest
forest_of [] = none
forest_of (k ∷ ks) = more k.label (tree_of k.node) (forest_of ks)
