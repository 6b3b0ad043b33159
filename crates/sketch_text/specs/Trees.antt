-- Trees of nodes, as proofs that no game comes to a sketch have them, and their lines in preorder.
use Rattle.std.specs.Prelude.{ℕ, ◌+◌, List, [], ◌∷◌, ◌++◌, length, map, max}
use Rattle.sketch_text.specs.Marks.{Marks}
use Rattle.sketch_text.specs.declared.labels.Label.{Label}
use Rattle.sketch_text.specs.declared.nodes.End.{End}
use Rattle.sketch_text.specs.declared.nodes.End.TheVariants.{Void, Closed, Steps, Split}
use Rattle.sketch_text.specs.declared.nodes.SketchNode.{SketchNode}

mutual
  -- a node: its label, its lines of marks, and why no game comes to its sketch
  pub data Node : Type 0 where
    node : Label → List Marks → Reason → Node

  -- The sketch is void; or a line of prices closes it; or no game comes to what was before each of its steps; or to any case of the man on a
  -- square.
  pub data Reason : Type 0 where
    void : Reason
    closed : ℕ → Reason
    steps : Nodes → Reason
    split : ℕ → Node → Node → Node → Reason

  -- a list of nodes
  pub data Nodes : Type 0 where
    none : Nodes
    more : Node → Nodes → Nodes

-- a line of a node, or of marks
pub data Line : Type 0 where
  of_node : SketchNode → Line
  of_marks : Marks → Line

-- how many nodes these are
abbrev pub count : Nodes → ℕ
count none = 0
count (more n ns) = count ns + 1

-- the end of a node that has this below it, as its line says it
abbrev pub end_of : Reason → End
end_of void = Void
end_of (closed k) = Closed k
end_of (steps ns) = Steps (count ns)
end_of (split s knight rook queen) = Split s

abbrev mutual
  -- the lines of a node: its own, those of its marks, and those of the nodes below it
  pub lines_of : Node → List Line
  lines_of (node label marks reason) = of_node (record { label = label; marks = length marks; end = end_of reason }) ∷ (map (λ m. of_marks m) marks ++ lines_below reason)

  -- the lines behind those of a node and its marks
  pub lines_below : Reason → List Line
  lines_below void = []
  lines_below (closed k) = []
  lines_below (steps ns) = lines_each ns
  lines_below (split s knight rook queen) = lines_of knight ++ (lines_of rook ++ lines_of queen)

  -- the lines of nodes, one after another
  pub lines_each : Nodes → List Line
  lines_each none = []
  lines_each (more n ns) = lines_of n ++ lines_each ns

abbrev mutual
  -- how many nodes are one below another at most, below this one
  pub height : Node → ℕ
  height (node label marks reason) = height_below reason

  -- how many nodes are one below another under a node that ends so
  pub height_below : Reason → ℕ
  height_below void = 0
  height_below (closed k) = 0
  height_below (steps ns) = height_each ns
  height_below (split s knight rook queen) = max (height knight) (max (height rook) (height queen)) + 1

  -- the same, with the highest of these nodes
  pub height_each : Nodes → ℕ
  height_each none = 0
  height_each (more n ns) = max (height n + 1) (height_each ns)
