-- The walk over a tree comes to one thing.
use Rattle.std.proofs.Common.{◌≡◌, ℕ, ◌+◌, inl, inr, List, [], ◌∷◌, map, sym, ◌∙◌, subst}
use Rattle.figures.specs.Figures.{Sketch}
use Rattle.sketch_proof.specs.Basis.{IsClosedAt}
use Rattle.sketch_proof.specs.Listed.{earlier}
use Rattle.sketch_proof.specs.Nodes.{IsVoid, marked_with}
use Rattle.sketch_proof.proofs.Least.{least-one}
use Rattle.sketch_text.specs.Marks.{Marks}
use Rattle.sketch_text.specs.Trees.{Node, Nodes, Reason, closed, more, node, none, split, steps, void}
use Rattle.sketch_text.specs.declared.labels.Officer.TheVariants as officer
use Rattle.sketch_proof.specs.Proofs.{AreForced, AtLine, Setting, with_lines}
use Rattle.sketch_checker.specs.DueNodes.{Due, case_due, due_of}
use Rattle.sketch_checker.specs.TreeWalk.{IfSo, IsBefore, Onwards, Walked, Walks, WalksBelow, WalksEach, WalksMarks, Wrong, fault_at, next_line}
use Rattle.sketch_checker.proofs.Below.{first-one}

pub one-if : (P : Type 0) (n : ℕ) (w : Wrong) (a b : Walked) (A B : Type 0) → (A → B → a ≡ b) → IfSo P n w a A → IfSo P n w b B → a ≡ b
one-if P n w a b A B rest (inl x) (inl y) = x.1 ∙ sym y.1
one-if P n w a b A B rest (inl x) (inr y) = absurd (x.0 y.0)
one-if P n w a b A B rest (inr x) (inl y) = absurd (y.0 x.0)
one-if P n w a b A B rest (inr x) (inr y) = rest x.1 y.1

one-onwards : (k : Walked) (Rest : ℕ → Walked → Type 0) (a b : Walked) → ((n : ℕ) → Rest n a → Rest n b → a ≡ b) → Onwards k Rest a → Onwards k Rest b → a ≡ b
one-onwards (fault_at n w) Rest a b rest x y = x ∙ sym y
one-onwards (next_line n) Rest a b rest x y = rest n x y

-- the first part comes to one thing, and so does what goes on after it
one-then : (First : Walked → Type 0) (Rest : ℕ → Walked → Type 0) (a b : Walked) → ((k j : Walked) → First k → First j → k ≡ j) → ((n : ℕ) → Rest n a → Rest n b → a ≡ b) → (k : Walked) × First k × Onwards k Rest a → (k : Walked) × First k × Onwards k Rest b → a ≡ b
one-then First Rest a b first rest (k, x, on) (j, y, go) = one-onwards j Rest a b rest (subst (λ (w : Walked). Onwards w Rest a) (first k j x y) on) go

marks-one : (ms : List Marks) (g : Setting) (S : Sketch) (n : ℕ) (a b : Walked) → WalksMarks ms g S n a → WalksMarks ms g S n b → a ≡ b
marks-one [] g S n a b x y = x ∙ sym y
marks-one (m ∷ ms) g S n a b x y =
    one-if (AreForced g S m) n _ a b (WalksMarks ms g (marked_with m.figures S) (n + 1) a) (WalksMarks ms g (marked_with m.figures S) (n + 1) b) (marks-one ms g (marked_with m.figures S) (n + 1) a b) x y

pub before-one : (g : Setting) (S T U : Sketch) → IsBefore g S T → IsBefore g S U → T ≡ U
before-one g S T U t u = least-one g.held g.exact S T U t.somewhere t.least u.least

mutual
  pub one-walk : (x : Node) (g : Setting) (d : Due) (n : ℕ) (a b : Walked) → Walks x g d n a → Walks x g d n b → a ≡ b
  one-walk (node label marks reason) g d n a b x y =
      let Rest : ℕ → Walked → Type 0 = WalksBelow reason g (with_lines marks d.sketch) n in
      one-if (label ≡ d.label) n _ a b ((k : Walked) × WalksMarks marks g d.sketch (n + 1) k × Onwards k Rest a) ((k : Walked) × WalksMarks marks g d.sketch (n + 1) k × Onwards k Rest b)
      (one-then (WalksMarks marks g d.sketch (n + 1)) Rest a b (λ k j. marks-one marks g d.sketch (n + 1) k j) (λ m. one-below reason g (with_lines marks d.sketch) n m a b)) x y

  one-below : (r : Reason) (g : Setting) (S : Sketch) (top n : ℕ) (a b : Walked) → WalksBelow r g S top n a → WalksBelow r g S top n b → a ≡ b
  one-below void g S top n a b x y = one-if (IsVoid g.odds g.held S) top _ a b (a ≡ next_line n) (b ≡ next_line n) (λ e f. e ∙ sym f) x y
  one-below (closed k) g S top n a b x y = one-if (AtLine g k (λ p. IsClosedAt g.odds g.held S p)) top _ a b (a ≡ next_line n) (b ≡ next_line n) (λ e f. e ∙ sym f) x y
  one-below (steps ns) g S top n a b (inl x) (inl y) = x.1 ∙ sym y.1
  one-below (steps ns) g S top n a b (inl x) (inr y) = absurd (x.0 y.0 y.1)
  one-below (steps ns) g S top n a b (inr x) (inl y) = absurd (y.0 x.0 x.1)
  one-below (steps ns) g S top n a b (inr (T, before, x)) (inr (U, behind, y)) =
      one-each ns g (map due_of (earlier g.odds g.exact U)) top n a b (subst (λ (V : Sketch). WalksEach ns g (map due_of (earlier g.odds g.exact V)) top n a) (before-one g S T U before behind) x) y
  one-below (split s knight rook queen) g S top n a b (inl x) (inl y) = x.1 ∙ sym y.1
  one-below (split s knight rook queen) g S top n a b (inl x) (inr y) = absurd (x.0 y.0 y.1.there)
  one-below (split s knight rook queen) g S top n a b (inr x) (inl y) = absurd (y.0 x.0 x.1.there)
  one-below (split s knight rook queen) g S top n a b (inr (i, first, v, x, on)) (inr (j, second, w, y, go)) =
      let Last : ℕ → Walked → Type 0 = λ m w. Walks queen g (case_due officer.Queen j S) m w in
      let Middle : ℕ → Walked → Type 0 = λ m w. (c : Walked) × Walks rook g (case_due officer.Rook j S) m c × Onwards c Last w in
      let same : i ≡ j = first-one S s i j first second in
      let x_is : (k : Walked) × Walks knight g (case_due officer.Knight j S) n k × Onwards k Middle a =
      subst (λ (q : ℕ). (k : Walked) × Walks knight g (case_due officer.Knight q S) n k × Onwards k (λ m w. (c : Walked) × Walks rook g (case_due officer.Rook q S) m c × Onwards c (Walks queen g (case_due officer.Queen q S)) w) a) same (v, x, on) in
      one-then (Walks knight g (case_due officer.Knight j S) n) Middle a b (λ u v. one-walk knight g (case_due officer.Knight j S) n u v)
      (λ m. one-then (Walks rook g (case_due officer.Rook j S) m) Last a b (λ u v. one-walk rook g (case_due officer.Rook j S) m u v) (λ l. one-walk queen g (case_due officer.Queen j S) l a b)) x_is (w, y, go)

  one-each : (ns : Nodes) (g : Setting) (ds : List Due) (top n : ℕ) (a b : Walked) → WalksEach ns g ds top n a → WalksEach ns g ds top n b → a ≡ b
  one-each none g [] top n a b x y = x ∙ sym y
  one-each none g (d ∷ ds) top n a b x y = x ∙ sym y
  one-each (more z ns) g [] top n a b x y = x ∙ sym y
  one-each (more z ns) g (d ∷ ds) top n a b x y = one-then (Walks z g d n) (WalksEach ns g ds top) a b (λ k j. one-walk z g d n k j) (λ m. one-each ns g ds top m a b) x y
