-- The nodes of a certificate's tree in preorder: after a node come its children, each with all nodes below it.
use Rattle.std.specs.Prelude.{ℕ, ◌+◌, List, [], ◌∷◌, ◌++◌, codes, Some, None}
use Rattle.std.specs.Fmt.{decimal}
use Rattle.board_base.specs.declared.unmoves.Unmove.{Unmove}
use Rattle.query_base.specs.Ancestors.{ancestor}
use Rattle.query_base.specs.Asked.{Asked}
use Rattle.cert_checker.specs.Proving.{target_of}
use Rattle.cert_text.specs.Certificate.{Certificate}
use Rattle.cert_text.specs.Tree.{Tree, Forest, rule, back, expand, sketch, none, more, count}
use Rattle.unmove_gen.specs.Predecessor.{predecessor}
use Rattle.proof_prose.specs.declared.nodes.Line.{Line}
use Rattle.proof_prose.specs.declared.nodes.Line.TheVariants.{Because, Sketched, Back, Moves}
use Rattle.proof_prose.specs.declared.nodes.Told.{Told}

-- the query of the ancestor so many steps above, or this one where there is none
abbrev pub earlier : Asked → List Asked → ℕ → Asked
earlier q above k = elim (ancestor above k) [ None ↦ q | Some a ↦ a ]

-- why no game reaches the query of a node below these ancestors, the parent first, without its children
abbrev pub line_of : Asked → List Asked → Tree → Line
line_of q above (rule r) = Because r
line_of q above (back k) = Back k (earlier q above k)
line_of q above (sketch b) = Sketched b
line_of q above (expand kids) = Moves (count kids)

-- what stands before the numbers of the children of the node with this number: `1.2.` for those of the second child of the first
abbrev pub prefix_below : List ℕ → ℕ → List ℕ
prefix_below prefix place = prefix ++ decimal place ++ codes "."

-- a child, to which this retraction leads
abbrev pub own_node : List ℕ → ℕ → List Unmove → Unmove → Asked → Asked → List Asked → Tree → Told
own_node prefix place path label whence q above tree =
    record { prefix = prefix; place = place; path = path ++ label ∷ []; label = Some label; whence = whence; query = q; line = line_of q above tree }

abbrev mutual
  -- the nodes below a node that has these ancestors and to which these retractions lead, whose children's numbers begin so
  pub below : List ℕ → List Unmove → Asked → List Asked → Tree → List Told
  below prefix path q above (rule r) = []
  below prefix path q above (back k) = []
  below prefix path q above (sketch b) = []
  below prefix path q above (expand kids) = kid_nodes prefix path q above 1 kids

  -- children from this place on, each with the nodes below it
  pub kid_nodes : List ℕ → List Unmove → Asked → List Asked → ℕ → Forest → List Told
  kid_nodes prefix path q above i none = []
  kid_nodes prefix path q above i (more label tree rest) =
      own_node prefix i path label q (predecessor q label) (q ∷ above) tree ∷ (below (prefix_below prefix i) (path ++ label ∷ []) (predecessor q label) (q ∷ above) tree ++ kid_nodes prefix path q above (i + 1) rest)

-- the root, which speaks of this query, and the nodes below it
abbrev pub nodes_from : Asked → Tree → List Told
nodes_from q tree =
    record { prefix = []; place = 0; path = []; label = None; whence = q; query = q; line = line_of q [] tree } ∷ below [] [] q [] tree

-- the nodes of a certificate's tree
abbrev pub nodes_of : Certificate → List Told
nodes_of cert = nodes_from (target_of cert) cert.root
