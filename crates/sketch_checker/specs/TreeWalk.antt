-- The walk over a tree of nodes in preorder, up to its first fault.
use Rattle.std.specs.Prelude.{ℕ, ◌≡◌, ◌+◌, ◌⊎◌, false, List, [], ◌∷◌, map}
use Rattle.std.specs.List.{list_any}
use Rattle.figures.specs.Clashes.{is_nowhere}
use Rattle.figures.specs.Figures.{Sketch}
use Rattle.figures.specs.Homes.{may_be_array}
use Rattle.sketch_proof.specs.Basis.{IsClosedAt}
use Rattle.sketch_proof.specs.Listed.{earlier}
use Rattle.sketch_proof.specs.Nodes.{IsFirstUnknown, IsLeastAbove, IsUnknownOn, IsVoid, marked_with}
use Rattle.sketch_text.specs.Marks.{Marks}
use Rattle.sketch_text.specs.Trees.{Node, Nodes, Reason, closed, more, node, none, split, steps, void}
use Rattle.sketch_text.specs.declared.labels.Officer.TheVariants as officer
use Rattle.sketch_proof.specs.Proofs.{AreForced, AtLine, Setting, with_lines}
use Rattle.sketch_checker.specs.DueNodes.{Due, case_due, due_of}

-- what is wrong with a line: its label isn't the one that is due, or what it says isn't so
pub data Wrong : Type 0 where
  stray : Wrong
  unsupported : Wrong

-- what a walk comes to: the first fault, at a line, or the line after those that were walked
pub data Walked : Type 0 where
  fault_at : ℕ → Wrong → Walked
  next_line : ℕ → Walked

-- P isn't so, which is the fault of line n; or it is, and the walk comes to this
abbrev pub IfSo : Type 0 → ℕ → Wrong → Walked → Type 0 → Type 0
IfSo P n w walked Rest = ((P → ⊥) × (walked ≡ fault_at n w)) ⊎ (P × Rest)

-- a fault of the part that was walked first, or what goes on after it
abbrev pub Onwards : Walked → (ℕ → Walked → Type 0) → Walked → Type 0
Onwards (fault_at n w) Rest walked = walked ≡ fault_at n w
Onwards (next_line n) Rest walked = Rest n walked

-- the steps of T can have been the last: each figure of S has a square, and T is the least closed sketch above S and can't be the array
pub record IsBefore (g : Setting) (S T : Sketch) : Type 0 where
  pub somewhere : list_any is_nowhere S ≡ false
  pub least : IsLeastAbove g.held g.exact S T
  pub no_array : may_be_array g.odds T ≡ false

-- what the walk of lines of marks comes to, the first of which is line n: each is forced in the sketch with those before
abbrev pub WalksMarks : List Marks → Setting → Sketch → ℕ → Walked → Type 0
WalksMarks [] g S n walked = walked ≡ next_line n
WalksMarks (m ∷ ms) g S n walked = IfSo (AreForced g S m) n unsupported walked (WalksMarks ms g (marked_with m.figures S) (n + 1) walked)

abbrev mutual
  -- what the walk of a node on line n comes to, where this node is due: its label, its lines of marks, and its end with what is below it
  pub Walks : Node → Setting → Due → ℕ → Walked → Type 0
  Walks (node label marks reason) g d n walked =
      IfSo (label ≡ d.label) n stray walked ((k : Walked) × WalksMarks marks g d.sketch (n + 1) k × Onwards k (WalksBelow reason g (with_lines marks d.sketch) n) walked)

  -- What the end of the node on line top comes to, and the nodes below it, of which the first is on line n. If the end isn't so, that is the
  -- fault of its own line. So it is if some steps are left behind the nodes.
  pub WalksBelow : Reason → Setting → Sketch → ℕ → ℕ → Walked → Type 0
  WalksBelow void g S top n walked = IfSo (IsVoid g.odds g.held S) top unsupported walked (walked ≡ next_line n)
  WalksBelow (closed k) g S top n walked = IfSo (AtLine g k (λ p. IsClosedAt g.odds g.held S p)) top unsupported walked (walked ≡ next_line n)
  WalksBelow (steps ns) g S top n walked =
      (((T : Sketch) → IsBefore g S T → ⊥) × (walked ≡ fault_at top unsupported)) ⊎
      ((T : Sketch) × IsBefore g S T × WalksEach ns g (map due_of (earlier g.odds g.exact T)) top n walked)
  WalksBelow (split s knight rook queen) g S top n walked =
      (((i : ℕ) → IsUnknownOn S s i → ⊥) × (walked ≡ fault_at top unsupported)) ⊎
      ((i : ℕ) × IsFirstUnknown S s i × (a : Walked) × Walks knight g (case_due officer.Knight i S) n a × Onwards a (λ m b. (c : Walked) × Walks rook g (case_due officer.Rook i S) m c × Onwards c (Walks queen g (case_due officer.Queen i S)) b) walked)

  -- what the walk of nodes comes to, where these are due; more than are due stray
  pub WalksEach : Nodes → Setting → List Due → ℕ → ℕ → Walked → Type 0
  WalksEach none g [] top n walked = walked ≡ next_line n
  WalksEach none g (d ∷ ds) top n walked = walked ≡ fault_at top unsupported
  WalksEach (more x ns) g [] top n walked = walked ≡ fault_at n stray
  WalksEach (more x ns) g (d ∷ ds) top n walked = (k : Walked) × Walks x g d n k × Onwards k (WalksEach ns g ds top) walked
