-- Inner: no public clause cites this file.
-- The numbers of children due, the innermost node's first, as they are kept where the walk has met its first fault.
use Rattle.std.specs.Prelude.{ℕ, ◌≡◌, ◌<◌, ◌≤◌, List, [], ◌∷◌, length, Option, Some, None}
use Rattle.cert_text.specs.Due.{Due, nodes_due, sketch_due}
use Rattle.cert_text.specs.declared.node_lines.BodyLine.{BodyLine}
use Rattle.cert_text.specs.declared.node_lines.BodyLine.TheVariants.{Rule, Back, Expand, Sketch}
use Rattle.cert_checker.specs.Framing.{popped}
use Rattle.cert_checker.specs.Sketching.{SketchState}
use Rattle.cert_checker.specs.declared.counting.Counted.{Counted}
use Rattle.cert_checker.specs.declared.counting.Counted.TheVariants as counted

-- where children are due, their depth is at most 255
abbrev pub AreCounts : List ℕ → Type 0
AreCounts [] = Unit {0}
AreCounts (n ∷ due) = (0 < n → length due < 255) × AreCounts due

-- the innermost node has a child due
abbrev pub IsDue : List ℕ → Type 0
IsDue [] = Unit {0}
IsDue (n ∷ due) = 0 < n

-- there is an innermost node, and it has a child due
abbrev pub SomeDue : List ℕ → Type 0
SomeDue due = 0 < length due × IsDue due

-- the numbers with that of a node with this body
abbrev pub counts_with : BodyLine → List ℕ → List ℕ
counts_with (Rule r) due = due
counts_with (Back k) due = due
counts_with (Expand n) due = n ∷ due
counts_with (Sketch h) due = due

-- what is due behind a line, as a function answers, with the numbers and the sketch that it keeps
abbrev pub CountsTo : Counted → Option Due → SketchState → List ℕ → Type 0
CountsTo counted.Bad o k counts = o ≡ None
CountsTo counted.Nodes o k counts = (due : List ℕ) × (o ≡ Some (nodes_due k.units due)) × (counts ≡ popped due)
CountsTo counted.Sketch o k counts = o ≡ Some (sketch_due k.reading counts)

-- this is so, unless the line isn't due
abbrev pub IfCounted : Counted → Type 0 → Type 0
IfCounted counted.Bad P = Unit {0}
IfCounted counted.Nodes P = P
IfCounted counted.Sketch P = P

-- if the line begins a sketch, that has at most 64 lines of prices
abbrev pub IfSketch : Counted → SketchState → Type 0
IfSketch counted.Bad k = Unit {0}
IfSketch counted.Nodes k = Unit {0}
IfSketch counted.Sketch k = k.reading.due.prices ≤ 64
