-- The walk over a tree meets no fault if and only if the tree holds.
use Rattle.std.proofs.Common.{◌≡◌, ℕ, ◌+◌, inl, inr, false, List, [], ◌∷◌, map, refl, ◌∙◌}
use Rattle.std.specs.List.{Contains, list_any}
use Rattle.general_lemmas.proofs.Lists.{contains-first, contains-later}
use Rattle.board_base.specs.declared.men.Kind.TheVariants as kind
use Rattle.figures.specs.Clashes.{is_nowhere}
use Rattle.figures.specs.Figures.{Sketch}
use Rattle.sketch_proof.specs.Basis.{IsClosedAt}
use Rattle.sketch_proof.specs.Listed.{Earlier, earlier}
use Rattle.sketch_proof.specs.Nodes.{IsVoid, marked_with}
use Rattle.sketch_text.specs.Marks.{Marks}
use Rattle.sketch_text.specs.Trees.{Node, Nodes, Reason, closed, more, node, none, split, steps, void}
use Rattle.sketch_text.specs.declared.labels.Officer.TheVariants as officer
use Rattle.sketch_proof.specs.Proofs.{AreAllForced, AreForced, AtLine, Ends, HoldEach, Holds, Setting, with_lines}
use Rattle.sketch_checker.specs.DueNodes.{Due, case_due, due_of}
use Rattle.sketch_checker.specs.TreeWalk.{IfSo, Onwards, Walked, Walks, WalksBelow, WalksEach, WalksMarks, Wrong, fault_at, next_line, stray, unsupported}
use Rattle.sketch_checker.proofs.Going.{earlier-somewhere, known-still, marked-still}

-- each figure has a square
abbrev IsSomewhere : Sketch → Type 0
IsSomewhere S = list_any is_nowhere S ≡ false

lines-still : (ms : List Marks) (S : Sketch) → IsSomewhere S → IsSomewhere (with_lines ms S)
lines-still [] S some = some
lines-still (m ∷ ms) S some = lines-still ms (marked_with m.figures S) (marked-still m.figures S ∙ some)

-- WITHOUT A FAULT

no-fault : (n m : ℕ) (w : Wrong) → next_line m ≡ fault_at n w → ⊥
no-fault n m w e = cc

pub so-told : (P Rest : Type 0) (n m : ℕ) (w : Wrong) → IfSo P n w (next_line m) Rest → P × Rest
so-told P Rest n m w (inl x) = absurd (no-fault n m w x.1)
so-told P Rest n m w (inr x) = x

then-told : (First : Walked → Type 0) (Rest : ℕ → Walked → Type 0) (m : ℕ) → (k : Walked) × First k × Onwards k Rest (next_line m) → (j : ℕ) × First (next_line j) × Rest j (next_line m)
then-told First Rest m (fault_at n w, first, e) = absurd (no-fault n m w e)
then-told First Rest m (next_line j, first, rest) = (j, first, rest)

marks-told : (ms : List Marks) (g : Setting) (S : Sketch) (n m : ℕ) → WalksMarks ms g S n (next_line m) → AreAllForced g ms S
marks-told [] g S n m it = tt
marks-told (l ∷ ms) g S n m it =
    let so = so-told (AreForced g S l) (WalksMarks ms g (marked_with l.figures S) (n + 1) (next_line m)) n m unsupported it in
    (so.0, marks-told ms g (marked_with l.figures S) (n + 1) m so.1)

mutual
  pub walk-told : (x : Node) (g : Setting) (d : Due) (n m : ℕ) → Walks x g d n (next_line m) → Holds x g d.label d.sketch
  walk-told (node label marks reason) g d n m it =
      let Rest : ℕ → Walked → Type 0 = WalksBelow reason g (with_lines marks d.sketch) n in
      let so = so-told (label ≡ d.label) ((k : Walked) × WalksMarks marks g d.sketch (n + 1) k × Onwards k Rest (next_line m)) n m stray it in
      let on = then-told (WalksMarks marks g d.sketch (n + 1)) Rest m so.1 in
      (so.0, marks-told marks g d.sketch (n + 1) on.0 on.1, below-told reason g (with_lines marks d.sketch) n on.0 m on.2)

  below-told : (r : Reason) (g : Setting) (S : Sketch) (top n m : ℕ) → WalksBelow r g S top n (next_line m) → Ends r g S
  below-told void g S top n m it = (so-told (IsVoid g.odds g.held S) (next_line m ≡ next_line n) top m unsupported it).0
  below-told (closed k) g S top n m it = (so-told (AtLine g k (λ p. IsClosedAt g.odds g.held S p)) (next_line m ≡ next_line n) top m unsupported it).0
  below-told (steps ns) g S top n m (inl x) = absurd (no-fault top m unsupported x.1)
  below-told (steps ns) g S top n m (inr (T, before, it)) = (T, before.least, before.no_array, each-told ns g (earlier g.odds g.exact T) top n m it)
  below-told (split s knight rook queen) g S top n m (inl x) = absurd (no-fault top m unsupported x.1)
  below-told (split s knight rook queen) g S top n m (inr (i, first, k, walk, on)) =
      let Last : ℕ → Walked → Type 0 = λ l w. Walks queen g (case_due officer.Queen i S) l w in
      let Middle : ℕ → Walked → Type 0 = λ l w. (c : Walked) × Walks rook g (case_due officer.Rook i S) l c × Onwards c Last w in
      let a = then-told (Walks knight g (case_due officer.Knight i S) n) Middle m (k, walk, on) in
      let b = then-told (Walks rook g (case_due officer.Rook i S) a.0) Last m a.2 in (
        i,
        first,
        walk-told knight g (case_due officer.Knight i S) n a.0 a.1,
        walk-told rook g (case_due officer.Rook i S) a.0 b.0 b.1,
        walk-told queen g (case_due officer.Queen i S) b.0 m b.2,
      )

  each-told : (ns : Nodes) (g : Setting) (es : List Earlier) (top n m : ℕ) → WalksEach ns g (map due_of es) top n (next_line m) → HoldEach ns g es
  each-told none g [] top n m it = tt
  each-told none g (e ∷ es) top n m it = absurd (no-fault top m unsupported it)
  each-told (more x ns) g [] top n m it = absurd (no-fault n m stray it)
  each-told (more x ns) g (e ∷ es) top n m it =
      let on = then-told (Walks x g (due_of e) n) (WalksEach ns g (map due_of es) top) m it in
      (walk-told x g (due_of e) n on.0 on.1, each-told ns g es top on.0 m on.2)

-- WHAT HOLDS

marks-tell : (ms : List Marks) (g : Setting) (S : Sketch) (n : ℕ) → AreAllForced g ms S → (m : ℕ) × WalksMarks ms g S n (next_line m)
marks-tell [] g S n it = (n, refl)
marks-tell (l ∷ ms) g S n it =
    let rest = marks-tell ms g (marked_with l.figures S) (n + 1) it.1 in
    (rest.0, inr (it.0, rest.1))

mutual
  pub walk-tells : (x : Node) (g : Setting) (d : Due) (n : ℕ) → IsSomewhere d.sketch → Holds x g d.label d.sketch → (m : ℕ) × Walks x g d n (next_line m)
  walk-tells (node label marks reason) g d n some it =
      let first = marks-tell marks g d.sketch (n + 1) it.1 in
      let rest = below-tells reason g (with_lines marks d.sketch) n first.0 (lines-still marks d.sketch some) it.2 in
      (rest.0, inr (it.0, (next_line first.0, first.1, rest.1)))

  below-tells : (r : Reason) (g : Setting) (S : Sketch) (top n : ℕ) → IsSomewhere S → Ends r g S → (m : ℕ) × WalksBelow r g S top n (next_line m)
  below-tells void g S top n some it = (n, inr (it, refl))
  below-tells (closed k) g S top n some it = (n, inr (it, refl))
  below-tells (steps ns) g S top n some it =
      let T : Sketch = it.0 in
      let rest = each-tells ns g (earlier g.odds g.exact T) top n (λ e there. earlier-somewhere g.odds g.exact T e there) it.3 in
      (rest.0, inr (T, record { somewhere = some; least = it.1; no_array = it.2 }, rest.1))
  below-tells (split s knight rook queen) g S top n some it =
      let i : ℕ = it.0 in
      let a = walk-tells knight g (case_due officer.Knight i S) n (known-still i kind.Knight S ∙ some) it.2 in
      let b = walk-tells rook g (case_due officer.Rook i S) a.0 (known-still i kind.Rook S ∙ some) it.3 in
      let c = walk-tells queen g (case_due officer.Queen i S) b.0 (known-still i kind.Queen S ∙ some) it.4 in
      (c.0, inr (i, it.1, next_line a.0, a.1, (next_line b.0, b.1, c.1)))

  each-tells : (ns : Nodes) (g : Setting) (es : List Earlier) (top n : ℕ) → ((e : Earlier) → Contains es e → IsSomewhere e.sketch) → HoldEach ns g es → (m : ℕ) × WalksEach ns g (map due_of es) top n (next_line m)
  each-tells none g [] top n some it = (n, refl)
  each-tells none g (e ∷ es) top n some it = absurd it
  each-tells (more x ns) g [] top n some it = absurd it
  each-tells (more x ns) g (e ∷ es) top n some it =
      let here = walk-tells x g (due_of e) n (some e (contains-first e es)) it.0 in
      let rest = each-tells ns g es top here.0 (λ y there. some y (contains-later e es y there)) it.1 in
      (rest.0, (next_line here.0, here.1, rest.1))
