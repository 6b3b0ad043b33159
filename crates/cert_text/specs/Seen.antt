-- How contracts see nodes.
use Rattle.cert_text.specs.Tree.{Tree, rule, back, expand, sketch}
use Rattle.cert_text.specs.declared.nodes.Node.{Node}
use Rattle.cert_text.specs.declared.nodes.Body.{Body}
use Rattle.cert_text.specs.declared.nodes.Body.TheVariants.{Rule, Back, Expand, Sketch}

abbrev pub body_tree : Body → Tree
body_tree (Rule r) = rule r
body_tree (Back k) = back k
body_tree (Expand kids) = expand kids
body_tree (Sketch b) = sketch b

-- the tree that a node is
abbrev pub tree_of : Node → Tree
tree_of n = body_tree n.body
