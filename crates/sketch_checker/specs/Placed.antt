-- Lines as the program has them, and which may come next on a walk.
use Rattle.std.specs.Prelude.{ℕ, ◌≡◌, Bool, true, false, ◌&&◌, not, nat_lt, List, [], ◌∷◌, length, Option, Some, None}
use Rattle.sketch_text.specs.declared.labels.Label.{Label}
use Rattle.sketch_text.specs.declared.nodes.End.{End}
use Rattle.sketch_text.specs.declared.nodes.End.TheVariants.{Void, Closed, Steps, Split}
use Rattle.sketch_text.specs.Trees.{Line, of_marks, of_node}
use Rattle.sketch_checker.specs.DueNodes.{Due}
use Rattle.sketch_checker.specs.Walks.{Frame, Opened, Walk}
use Rattle.sketch_checker.specs.declared.faults.SketchFault.{SketchFault}
use Rattle.sketch_checker.specs.declared.faults.SketchFault.TheVariants.{Misplaced, Stray, Unsupported}

-- how many nodes follow below one with this end
abbrev pub announced_by : End → ℕ
announced_by Void = 0
announced_by (Closed k) = 0
announced_by (Steps m) = m
announced_by (Split s) = 3

-- A line of marks may come if a node has some to come, and else a line of a node, if one is due. If 64 nodes are above it, so that with
-- the frame of the first there are 65, none may follow below.
abbrev pub may_come : Option Opened → List Frame → Line → Bool
may_come (Some o) fs (of_marks m) = true
may_come (Some o) fs (of_node x) = false
may_come None fs (of_marks m) = false
may_come None [] (of_node x) = false
may_come None (f ∷ fs) (of_node x) = not (nat_lt 63 (length fs) && nat_lt 0 (announced_by x.end))

-- some node is due, and the first that is has this label
abbrev pub IsNext : List Due → Label → Type 0
IsNext [] l = ⊥
IsNext (d ∷ ds) l = l ≡ d.label

-- the label of the node that comes isn't the one that is due
abbrev pub IsStrayAt : Option Opened → List Frame → Line → Type 0
IsStrayAt (Some o) fs l = ⊥
IsStrayAt None fs (of_marks m) = ⊥
IsStrayAt None [] (of_node x) = ⊥
IsStrayAt None (f ∷ fs) (of_node x) = (may_come None (f ∷ fs) (of_node x) ≡ true) × (IsNext f.due x.label → ⊥)

-- the line may come, and its label isn't another
abbrev pub IsPlacedAt : Option Opened → List Frame → Line → Type 0
IsPlacedAt o fs l = (may_come o fs l ≡ true) × (IsStrayAt o fs l → ⊥)

abbrev pub IsPlaced : Walk → Line → Type 0
IsPlaced w l = IsPlacedAt w.opened w.frames l

-- the word of the fault is that for this line: misplaced, where none like it may come; stray, where its label is another
abbrev pub IsWordAt : Option Opened → List Frame → Line → SketchFault → Type 0
IsWordAt o fs l Misplaced = may_come o fs l ≡ false
IsWordAt o fs l (Stray n) = IsStrayAt o fs l
IsWordAt o fs l (Unsupported n) = IsPlacedAt o fs l

abbrev pub IsWordFor : Walk → Line → SketchFault → Type 0
IsWordFor w l f = IsWordAt w.opened w.frames l f
