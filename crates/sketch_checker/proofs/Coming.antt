-- Where a line may not come, no lines with it complete a walk.
use Rattle.std.proofs.Common.{◌≡◌, ℕ, zero, suc, ◌<◌, Bool, false, List, [], ◌∷◌, ◌++◌, length, map, Option, Some, None, arith}
use Rattle.std.proofs.lemmas.Bool.{and_parts, ltb-true, not-false}
use Rattle.std.specs.Prelude.{nat_lt}
use Rattle.general_lemmas.proofs.Lists.{same_first}
use Rattle.sketch_text.specs.Marks.{Marks}
use Rattle.sketch_text.specs.declared.nodes.SketchNode.{SketchNode}
use Rattle.sketch_text.specs.Trees.{Line, Nodes, Reason, closed, count, end_of, height_below, height_each, lines_below, more, none, of_marks, of_node, split, steps, void}
use Rattle.sketch_proof.specs.Proofs.{Setting}
use Rattle.sketch_checker.specs.Walks.{Completes, CompletesOpened, Frame, FinishesAt, Opened}
use Rattle.sketch_checker.specs.Placed.{IsNext, announced_by, may_come}
use Rattle.sketch_checker.specs.Steering.{IsReady}
use Rattle.sketch_checker.proofs.Completing.{frame, node-due, node-told, none-due}
use Rattle.sketch_checker.specs.DueNodes.{Due}

-- behind a node with more below it some nodes are lower
below-some : (ns : Nodes) → 0 < count ns → 0 < height_each ns
below-some none some = omega arith
below-some (more n ns) some = omega arith

lower : (r : Reason) → 0 < announced_by (end_of r) → 0 < height_below r
lower void some = omega arith
lower (closed k) some = omega arith
lower (steps ns) some = below-some ns some
lower (split s a b c) some = omega arith

-- 64 nodes are above it, and it announces others
pub too-deep : (g : Setting) (k m : ℕ) (ds : List Due) (fs : List Frame) (x : SketchNode) (lines : List Line) → 63 < length fs → 0 < announced_by x.end → Completes g (frame k (suc m) ds ∷ fs) (of_node x ∷ lines) → ⊥
too-deep g k m [] fs x lines deep some it = none-due g k m fs (of_node x ∷ lines) it
too-deep g k m (d ∷ ds) fs x lines deep some it =
    let o = (node-told g 0 k m d ds fs x lines it).1 in
    let high : 0 < height_below o.reason = lower o.reason (rw o.end some) in
    omega (arith, high, o.low, deep)

-- the node's label is another
pub other-label : (g : Setting) (k m : ℕ) (ds : List Due) (fs : List Frame) (x : SketchNode) (lines : List Line) → (IsNext ds x.label → ⊥) → Completes g (frame k (suc m) ds ∷ fs) (of_node x ∷ lines) → ⊥
other-label g k m [] fs x lines other it = none-due g k m fs (of_node x ∷ lines) it
other-label g k m (d ∷ ds) fs x lines other it = other (node-told g 0 k m d ds fs x lines it).0

-- where marks are to come, the line of a node isn't one
marks-first : (g : Setting) (o : Opened) (fs : List Frame) (x : SketchNode) (lines : List Line) → 0 < o.marks → CompletesOpened g o fs (of_node x ∷ lines) → ⊥
marks-first g o fs x lines some it = by-marks it.marks it.many it.lines_are
  where
    other-line : {m : Marks} → of_node x ≡ of_marks m → ⊥
    other-line e = cc

    by-marks : (ms : List Marks) → length ms ≡ o.marks → of_node x ∷ lines ≡ map (λ m. of_marks m) ms ++ (lines_below it.reason ++ it.rest) → ⊥
    by-marks [] many e = omega (arith, many, some)
    by-marks (m ∷ ms) many e = other-line (same_first e)

pub over : (l : Line) (lines : List Line) → l ∷ lines ≡ [] → ⊥
over l lines e = cc

at-frame : (g : Setting) (k m : ℕ) (ds : List Due) (fs : List Frame) (l : Line) (lines : List Line) → 0 < m → may_come None (frame k m ds ∷ fs) l ≡ false → Completes g (frame k m ds ∷ fs) (l ∷ lines) → ⊥
at-frame g k zero ds fs l lines some bar it = omega (arith, some)
at-frame g k (suc m) ds fs (of_marks a) lines some bar it = node-due g k m ds fs a lines it
at-frame g k (suc m) ds fs (of_node x) lines some bar it =
    let both = and_parts (nat_lt 63 (length fs)) (nat_lt 0 (announced_by x.end)) (not-false _ bar) in
    too-deep g k m ds fs x lines (ltb-true 63 (length fs) both.0) (ltb-true 0 (announced_by x.end) both.1) it

pub misplaced : (odds : List Bool) (g : Setting) (o : Option Opened) (fs : List Frame) (l : Line) (lines : List Line) → IsReady odds o fs → may_come o fs l ≡ false → FinishesAt g o fs (l ∷ lines) → ⊥
misplaced odds g (Some o) fs (of_marks m) lines ready bar it = cc
misplaced odds g (Some o) fs (of_node x) lines ready bar it = marks-first g o fs x lines ready.0 it
misplaced odds g None [] l lines ready bar it = over l lines it
misplaced odds g None (f ∷ fs) l lines ready bar it = at-frame g f.line f.announced f.due fs l lines ready.0 bar it
