-- How far a walk over the lines of a proof has come, and which lines complete it.
use Rattle.std.specs.Prelude.{ℕ, ◌≡◌, ◌+◌, ◌≤◌, List, [], ◌∷◌, ◌++◌, length, map, Option, Some, None}
use Rattle.figures.specs.Figures.{Sketch}
use Rattle.sketch_text.specs.Marks.{Marks}
use Rattle.sketch_text.specs.declared.nodes.End.{End}
use Rattle.sketch_text.specs.Trees.{Line, Nodes, Reason, count, end_of, height_below, height_each, lines_below, lines_each, more, none, of_marks}
use Rattle.sketch_proof.specs.Proofs.{AreAllForced, Ends, Holds, Setting, with_lines}
use Rattle.sketch_checker.specs.DueNodes.{Due}

-- below the node on this line: how many nodes it announced that are still to come, and those that are due
pub record Frame : Type 0 where
  pub line : ℕ
  pub announced : ℕ
  pub due : List Due

-- the node on this line, which was read: how many lines of marks are still to come, its end, and its sketch with the marks so far
pub record Opened : Type 0 where
  pub line : ℕ
  pub marks : ℕ
  pub end : End
  pub sketch : Sketch

-- the nodes are those that are due, in order, and hold
abbrev pub AreDue : Nodes → Setting → List Due → Type 0
AreDue none g [] = Unit {0}
AreDue none g (d ∷ ds) = ⊥
AreDue (more n ns) g [] = ⊥
AreDue (more n ns) g (d ∷ ds) = Holds n g d.label d.sketch × AreDue ns g ds

-- These lines are those of the nodes that are due below each node, the lowest first. At most 65 nodes are one below another, and the first
-- of them has a frame too.
abbrev pub Completes : Setting → List Frame → List Line → Type 0
Completes g [] lines = lines ≡ []
Completes g (f ∷ fs) lines =
    (ns : Nodes) × (rest : List Line) × (count ns ≡ f.announced) × AreDue ns g f.due × (height_each ns + length fs ≤ 65) × (lines ≡ lines_each ns ++ rest) × Completes g fs rest

-- these lines are the marks of the opened node, those of the nodes below it, and those that complete the rest
pub record CompletesOpened (g : Setting) (o : Opened) (fs : List Frame) (lines : List Line) : Type 0 where
  pub marks : List Marks
  pub reason : Reason
  pub rest : List Line
  pub many : length marks ≡ o.marks
  pub end : end_of reason ≡ o.end
  pub forced : AreAllForced g marks o.sketch
  pub holds : Ends reason g (with_lines marks o.sketch)
  pub low : height_below reason + length fs ≤ 65
  pub lines_are : lines ≡ map (λ m. of_marks m) marks ++ (lines_below reason ++ rest)
  pub completes : Completes g fs rest

-- the setting, the node whose lines of marks are being read, if there is one, and what is due below each node, the lowest first
pub record Walk : Type 0 where
  pub setting : Setting
  pub opened : Option Opened
  pub frames : List Frame

abbrev pub FinishesAt : Setting → Option Opened → List Frame → List Line → Type 0
FinishesAt g None fs lines = Completes g fs lines
FinishesAt g (Some o) fs lines = CompletesOpened g o fs lines

-- with these lines behind those that were read the walk is at its end
abbrev pub Finishes : Walk → List Line → Type 0
Finishes w lines = FinishesAt w.setting w.opened w.frames lines
