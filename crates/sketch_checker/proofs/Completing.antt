-- What the line of a node, and a line of marks, do to the lines that complete a walk.
use Rattle.std.proofs.Common.{◌≡◌, ℕ, suc, ◌+◌, ◌≤◌, ◌↔◌, List, [], ◌∷◌, ◌++◌, append_assoc, length, map, max, refl, ap, sym, ◌∙◌, subst, arith}
use Rattle.general_lemmas.proofs.Lists.{same_first, same_rest}
use Rattle.figures.specs.Figures.{Sketch}
use Rattle.sketch_proof.specs.Nodes.{marked_with}
use Rattle.sketch_text.specs.Marks.{Marks}
use Rattle.sketch_text.specs.declared.nodes.End.{End}
use Rattle.sketch_text.specs.declared.nodes.SketchNode.{SketchNode}
use Rattle.sketch_text.specs.Trees.{Line, Node, Nodes, count, end_of, height, height_each, lines_below, lines_each, lines_of, more, node, none, of_marks, of_node}
use Rattle.sketch_proof.specs.Proofs.{AreAllForced, AreForced, Ends, Holds, Setting, with_lines}
use Rattle.sketch_checker.specs.Walks.{AreDue, Completes, CompletesOpened, Frame, Opened}
use Rattle.sketch_checker.specs.DueNodes.{Due}

abbrev pub frame : ℕ → ℕ → List Due → Frame
frame k n ds = record { line = k; announced = n; due = ds }

abbrev pub opened : ℕ → ℕ → End → Sketch → Opened
opened k n e S = record { line = k; marks = n; end = e; sketch = S }

-- lists of lines
node-lines : (y : SketchNode) (marks below each rest : List Line) → ((of_node y ∷ (marks ++ below)) ++ each) ++ rest ≡ of_node y ∷ (marks ++ (below ++ (each ++ rest)))
node-lines y marks below each rest = ap (λ (l : List Line). of_node y ∷ l) (append_assoc (marks ++ below) each rest ∙ append_assoc marks below (each ++ rest))

pub same-node : (x y : SketchNode) → of_node x ≡ of_node y → x ≡ y
same-node x y e = cc

same-marks : (x y : Marks) → of_marks x ≡ of_marks y → x ≡ y
same-marks x y e = cc

-- THE LINE OF A NODE

module _ (g : Setting) (j k m : ℕ) (d : Due) (ds : List Due) (fs : List Frame) (x : SketchNode) (lines : List Line) where
  abbrev after : Opened
  after = opened j x.marks x.end d.sketch

  abbrev below : List Frame
  below = frame k m ds ∷ fs

  node-opens : (n : Node) (ns : Nodes) (rest : List Line) → count ns + 1 ≡ suc m → Holds n g d.label d.sketch → AreDue ns g ds → max (height n + 1) (height_each ns) + length fs ≤ 65 → of_node x ∷ lines ≡ (lines_of n ++ lines_each ns) ++ rest → Completes g fs rest → (x.label ≡ d.label) × CompletesOpened g after below lines
  node-opens (node label marks reason) ns rest many holds due low e done =
      let y : SketchNode = record { label = label; marks = length marks; end = end_of reason } in
      let same = e ∙ node-lines y (map (λ m. of_marks m) marks) (lines_below reason) (lines_each ns) rest in
      let x_is : x ≡ y = same-node x y (same_first same) in (
        ap (λ (n : SketchNode). n.label) x_is ∙ holds.0,
        record {
          marks = marks;
          reason = reason;
          rest = lines_each ns ++ rest;
          many = sym (ap (λ (n : SketchNode). n.marks) x_is);
          end = sym (ap (λ (n : SketchNode). n.end) x_is);
          forced = holds.1;
          holds = holds.2;
          low = omega arith;
          lines_are = same_rest same;
          completes = (ns, rest, omega arith, due, omega arith, refl, done);
        },
      )

  pub node-told : Completes g (frame k (suc m) (d ∷ ds) ∷ fs) (of_node x ∷ lines) → (x.label ≡ d.label) × CompletesOpened g after below lines
  node-told (none, rest, many, due, low, e, done) = absurd due
  node-told (more n ns, rest, many, due, low, e, done) = node-opens n ns rest many due.0 due.1 low e done

  pub node-tells : x.label ≡ d.label → CompletesOpened g after below lines → Completes g (frame k (suc m) (d ∷ ds) ∷ fs) (of_node x ∷ lines)
  node-tells labelled it =
      let ns : Nodes = it.completes.0 in
      let rest : List Line = it.completes.1 in
      let n : Node = node x.label it.marks it.reason in
      let y : SketchNode = record { label = x.label; marks = length it.marks; end = end_of it.reason } in
      let x_is : x ≡ y = λ i. record { label = x.label; marks = sym it.many i; end = sym it.end i } in
      let tail : lines ≡ map (λ m. of_marks m) it.marks ++ (lines_below it.reason ++ (lines_each ns ++ rest)) = it.lines_are ∙ ap (λ (l : List Line). map (λ m. of_marks m) it.marks ++ (lines_below it.reason ++ l)) it.completes.5 in (
        more n ns,
        rest,
        omega (arith, it.completes.2),
        ((labelled, it.forced, it.holds), it.completes.3),
        omega (arith, it.low, it.completes.4),
        ap (λ (n : SketchNode). of_node n ∷ lines) x_is ∙ ap (λ (l : List Line). of_node y ∷ l) tail ∙ sym (node-lines y (map (λ m. of_marks m) it.marks) (lines_below it.reason) (lines_each ns) rest),
        it.completes.6,
      )

-- no other line comes there
pub node-due : (g : Setting) (k m : ℕ) (ds : List Due) (fs : List Frame) (l : Marks) (lines : List Line) → Completes g (frame k (suc m) ds ∷ fs) (of_marks l ∷ lines) → ⊥
node-due g k m ds fs l lines (none, rest, many, due, low, e, done) = omega arith
node-due g k m ds fs l lines (more (node label marks reason) ns, rest, many, due, low, e, done) = other-line (same_first e)
  where
    other-line : {y : SketchNode} → of_marks l ≡ of_node y → ⊥
    other-line e = cc

pub line-due : (g : Setting) (k m : ℕ) (ds : List Due) (fs : List Frame) → Completes g (frame k (suc m) ds ∷ fs) [] → ⊥
line-due g k m ds fs (none, rest, many, due, low, e, done) = omega arith
line-due g k m ds fs (more (node label marks reason) ns, rest, many, due, low, e, done) = cc

-- nothing is due beyond what was announced, and all that is due was announced
pub more-due : (g : Setting) (k : ℕ) (d : Due) (ds : List Due) (fs : List Frame) (lines : List Line) → Completes g (frame k 0 (d ∷ ds) ∷ fs) lines → ⊥
more-due g k d ds fs lines (none, rest, many, due, low, e, done) = due
more-due g k d ds fs lines (more n ns, rest, many, due, low, e, done) = omega arith

pub none-due : (g : Setting) (k m : ℕ) (fs : List Frame) (lines : List Line) → Completes g (frame k (suc m) [] ∷ fs) lines → ⊥
none-due g k m fs lines (none, rest, many, due, low, e, done) = omega arith
none-due g k m fs lines (more n ns, rest, many, due, low, e, done) = due

pub all-done : (g : Setting) (k : ℕ) (fs : List Frame) (lines : List Line) → length fs ≤ 65 → Completes g (frame k 0 [] ∷ fs) lines ↔ Completes g fs lines
all-done g k fs lines few = (λ it. took it, λ done. (none, lines, refl, tt, omega arith, refl, done))
  where
    took : Completes g (frame k 0 [] ∷ fs) lines → Completes g fs lines
    took (none, rest, many, due, low, e, done) = subst (Completes g fs) (sym e) done
    took (more n ns, rest, many, due, low, e, done) = absurd due

-- A LINE OF MARKS

module _ (g : Setting) (k c : ℕ) (end : End) (S : Sketch) (fs : List Frame) (l : Marks) (lines : List Line) where
  pub marks-told : CompletesOpened g (opened k (suc c) end S) fs (of_marks l ∷ lines) → AreForced g S l × CompletesOpened g (opened k c end (marked_with l.figures S)) fs lines
  marks-told it = by-marks it.marks refl
    where
      by-marks : (ms : List Marks) → it.marks ≡ ms → AreForced g S l × CompletesOpened g (opened k c end (marked_with l.figures S)) fs lines
      by-marks [] e = let many : ⊥ = omega (arith, it.many, ap (λ (x : List Marks). length x) e) in absurd many
      by-marks (m ∷ ms) e =
          let lines_are : of_marks l ∷ lines ≡ of_marks m ∷ (map (λ m. of_marks m) ms ++ (lines_below it.reason ++ it.rest)) = it.lines_are ∙ ap (λ (x : List Marks). map (λ m. of_marks m) x ++ (lines_below it.reason ++ it.rest)) e in
          let same : m ≡ l = sym (same-marks l m (same_first lines_are)) in
          let forced : AreAllForced g (m ∷ ms) S = subst (λ (x : List Marks). AreAllForced g x S) e it.forced in
          let holds : Ends it.reason g (with_lines (m ∷ ms) S) = subst (λ (x : List Marks). Ends it.reason g (with_lines x S)) e it.holds in (
            subst (AreForced g S) same forced.0,
            record {
              marks = ms;
              reason = it.reason;
              rest = it.rest;
              many = omega (arith, it.many, ap (λ (x : List Marks). length x) e);
              end = it.end;
              forced = subst (λ (x : Marks). AreAllForced g ms (marked_with x.figures S)) same forced.1;
              holds = subst (λ (x : Marks). Ends it.reason g (with_lines ms (marked_with x.figures S))) same holds;
              low = it.low;
              lines_are = same_rest lines_are;
              completes = it.completes;
            },
          )

  pub marks-tells : AreForced g S l → CompletesOpened g (opened k c end (marked_with l.figures S)) fs lines → CompletesOpened g (opened k (suc c) end S) fs (of_marks l ∷ lines)
  marks-tells forced it = record {
    marks = l ∷ it.marks;
    reason = it.reason;
    rest = it.rest;
    many = ap suc it.many;
    end = it.end;
    forced = (forced, it.forced);
    holds = it.holds;
    low = it.low;
    lines_are = ap (λ (x : List Line). of_marks l ∷ x) it.lines_are;
    completes = it.completes;
  }
