-- Inner: no public clause cites this file.
-- Which nodes are due while the lines are read.
use Rattle.std.specs.Prelude.{ℕ, ◌≡◌, ◌+◌, ◌-◌, ◌==◌, ◌++◌, Bool, false, List, [], ◌∷◌, Option}
use Rattle.figures.specs.Figures.{Sketch}
use Rattle.sketch_proof.specs.Proofs.{Setting}
use Rattle.sketch_prose.specs.Children.{FlawOf}
use Rattle.sketch_prose.specs.Leaves.{leaf_of}
use Rattle.sketch_text.specs.Trees.{Line, of_marks, of_node}
use Rattle.sketch_text.specs.declared.labels.Label.{Label}
use Rattle.sketch_text.specs.declared.nodes.SketchNode.{SketchNode}
use Rattle.sketch_text.specs.declared.nodes.End.{End}
use Rattle.sketch_text.specs.declared.nodes.End.TheVariants.{Void, Closed, Steps, Split}
use Rattle.sketch_words.specs.declared.spots.Child.{Child}
use Rattle.sketch_words.specs.declared.spots.Flaw.{Flaw}

-- how many nodes are below one that ends so
abbrev pub count_below : End → ℕ
count_below Void = 0
count_below (Closed k) = 0
count_below (Steps m) = m
count_below (Split s) = 3

-- a child with this line was put behind others
abbrev pub AddsChild : SketchNode → Setting → Label → Sketch → List Child → List Child → Type 0
AddsChild x g label S old new = (w : Option Flaw) × FlawOf (leaf_of x) g S w × (new ≡ old ++ record { label = label; flaw = w } ∷ [])

-- how many nodes are due behind this line, if so many were before it
abbrev pub due_behind : ℕ → Line → ℕ
due_behind due (of_node x) = (due - 1) + count_below x.end
due_behind due (of_marks m) = due

-- a node is on this line, and none was due before it
abbrev pub is_past : ℕ → Line → Bool
is_past due (of_node x) = due == 0
is_past due (of_marks m) = false
