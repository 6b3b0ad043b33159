-- The walk over the lines of a tree is the walk over the tree.
use Rattle.std.proofs.Common.{◌≡◌, ℕ, zero, suc, ◌+◌, ◌-◌, inl, inr, List, [], ◌∷◌, ◌++◌, append_assoc, append-nil, length, map, refl, ap, sym, ◌∙◌, subst, arith}
use Rattle.std.specs.Prelude.{Some, None}
use Rattle.figures.specs.Figures.{Sketch}
use Rattle.sketch_proof.specs.Listed.{earlier}
use Rattle.sketch_proof.specs.Nodes.{marked_with}
use Rattle.sketch_text.specs.Marks.{Marks}
use Rattle.sketch_text.specs.declared.labels.Officer.TheVariants as officer
use Rattle.sketch_text.specs.declared.nodes.End.{End}
use Rattle.sketch_text.specs.Trees.{Line, Node, Nodes, Reason, closed, count, end_of, lines_below, lines_each, lines_of, more, node, none, of_marks, split, steps, void}
use Rattle.sketch_proof.specs.Proofs.{AreForced, Setting, with_lines}
use Rattle.sketch_checker.specs.DueNodes.{Due, case_due, due_of, first_due}
use Rattle.sketch_checker.specs.LineWalk.{ComesTo, OnEnd, OnOpened, StopsUnless, Walking, WalksOn, begun, ended, going, stopped}
use Rattle.sketch_checker.specs.TreeWalk.{IfSo, Onwards, Walked, Walks, WalksBelow, WalksEach, WalksMarks, Wrong, fault_at, next_line, stray, unsupported}
use Rattle.sketch_checker.specs.Walks.{Frame}
use Rattle.sketch_checker.proofs.Completing.{frame, opened}

-- a fault of the walk over a tree, or what goes on after it
abbrev pub Carries : Walked → (ℕ → Walking → Type 0) → Walking → Type 0
Carries (fault_at n w) Go last = last ≡ stopped n w
Carries (next_line n) Go last = Go n last

-- a walk that has stopped stays so
stopped-on : (g : Setting) (lines : List Line) (m n : ℕ) (w : Wrong) (last : Walking) → WalksOn g (stopped m w) n lines last → last ≡ stopped m w
stopped-on g [] m n w last e = e
stopped-on g (l ∷ lines) m n w last (after, on, walks) =
    stopped-on g lines m (n + 1) w last (subst (λ (k : Walking). WalksOn g k (n + 1) lines last) on walks)

stops : (g : Setting) (lines : List Line) (m n : ℕ) (w : Wrong) (after last : Walking) → after ≡ stopped m w → WalksOn g after n lines last → last ≡ stopped m w
stops g lines m n w after last e walks = stopped-on g lines m n w last (subst (λ (k : Walking). WalksOn g k n lines last) e walks)

-- a part that is walked first, and what goes on after it
join : (First : Walked → Type 0) (Rest : ℕ → Walked → Type 0) (Next Go : ℕ → Walking → Type 0) (last : Walking) → (k : Walked) × First k × Carries k Next last → ((m : ℕ) → Next m last → (k : Walked) × Rest m k × Carries k Go last) → (walked : Walked) × ((k : Walked) × First k × Onwards k Rest walked) × Carries walked Go last
join First Rest Next Go last (fault_at m w, first, carries) later = (fault_at m w, (fault_at m w, first, refl), carries)
join First Rest Next Go last (next_line m, first, carries) later =
    let rest = later m carries in
    (rest.0, (next_line m, first, rest.1), rest.2)

-- the end of a node on line top is looked at, and the walk goes on
abbrev EndsOn : Setting → End → Sketch → ℕ → List Frame → List Line → ℕ → Walking → Type 0
EndsOn g e S top fs lines n last = (after : Walking) × OnEnd e g S top fs after × WalksOn g after n lines last

-- the lines of marks of a node
marks-walk : (ms : List Marks) (g : Setting) (top : ℕ) (e : End) (S : Sketch) (fs : List Frame) (n : ℕ) (lines : List Line) (after last : Walking)
    → OnOpened (length ms) g (opened top (length ms) e S) fs after → WalksOn g after n (map (λ m. of_marks m) ms ++ lines) last
    → (k : Walked) × WalksMarks ms g S n k × Carries k (EndsOn g e (with_lines ms S) top fs lines) last
marks-walk [] g top e S fs n lines after last on walks = (next_line n, refl, (after, on, walks))
marks-walk (m ∷ ms) g top e S fs n lines after last on walks =
    let all : WalksOn g (going (Some (opened top (suc (length ms)) e S)) fs) n (of_marks m ∷ (map (λ m. of_marks m) ms ++ lines)) last = subst (λ (k : Walking). WalksOn g k n (map (λ m. of_marks m) (m ∷ ms) ++ lines) last) on walks in
    by-forced all.0 (λ next opens rest. marks-walk ms g top e (marked_with m.figures S) fs (n + 1) lines next last opens rest) all.1 all.2
  where
    less : suc (length ms) - 1 ≡ length ms
    less = omega arith

    by-forced : (next : Walking)
        → ((k : Walking) → OnOpened (length ms) g (opened top (length ms) e (marked_with m.figures S)) fs k → WalksOn g k (n + 1) (map (λ m. of_marks m) ms ++ lines) last → (k : Walked) × WalksMarks ms g (marked_with m.figures S) (n + 1) k × Carries k (EndsOn g e (with_lines (m ∷ ms) S) top fs lines) last)
        → StopsUnless (AreForced g S m) n unsupported next (OnOpened (suc (length ms) - 1) g (opened top (suc (length ms) - 1) e (marked_with m.figures S)) fs next) → WalksOn g next (n + 1) (map (λ m. of_marks m) ms ++ lines) last
        → (k : Walked) × WalksMarks (m ∷ ms) g S n k × Carries k (EndsOn g e (with_lines (m ∷ ms) S) top fs lines) last
    by-forced next more_ (inl x) rest = (fault_at n unsupported, inl (x.0, refl), stops g (map (λ m. of_marks m) ms ++ lines) n (n + 1) unsupported next last x.1 rest)
    by-forced next more_ (inr x) rest =
        let it = more_ next (subst (λ (c : ℕ). OnOpened c g (opened top c e (marked_with m.figures S)) fs next) less x.1) rest in
        (it.0, inr (x.0, it.1), it.2)

-- a node below which nothing comes
leaf-walk : (P : Type 0) (g : Setting) (top n : ℕ) (fs : List Frame) (lines : List Line) (after last : Walking) → StopsUnless P top unsupported after (after ≡ ended fs) → WalksOn g after n lines last → (k : Walked) × IfSo P top unsupported k (k ≡ next_line n) × Carries k (λ m l. WalksOn g (ended fs) m lines l) last
leaf-walk P g top n fs lines after last (inl x) walks = (fault_at top unsupported, inl (x.0, refl), stops g lines top n unsupported after last x.1 walks)
leaf-walk P g top n fs lines after last (inr x) walks = (next_line n, inr (x.0, refl), subst (λ (k : Walking). WalksOn g k n lines last) x.1 walks)

-- no node is to come below this one
none-walk : (ds : List Due) (g : Setting) (top n : ℕ) (fs : List Frame) (lines : List Line) (last : Walking) → WalksOn g (ended (frame top 0 ds ∷ fs)) n lines last → (k : Walked) × WalksEach none g ds top n k × Carries k (λ m l. WalksOn g (ended fs) m lines l) last
none-walk [] g top n fs lines last walks = (next_line n, refl, walks)
none-walk (d ∷ ds) g top n fs lines last walks = (fault_at top unsupported, refl, stopped-on g lines top n unsupported last walks)

mutual
  -- the lines of a node, where it is due first below the innermost frame
  pub node-walk : (x : Node) (g : Setting) (k m : ℕ) (d : Due) (ds : List Due) (fs : List Frame) (n : ℕ) (lines : List Line) (last : Walking)
      → WalksOn g (going None (frame k (suc m) (d ∷ ds) ∷ fs)) n (lines_of x ++ lines) last
      → (walked : Walked) × Walks x g d n walked × Carries walked (λ j l. WalksOn g (ended (frame k m ds ∷ fs)) j lines l) last
  node-walk (node label marks reason) g k m d ds fs n lines last (after, on, walks) =
      by-label after (λ j next ends rest. below-walk reason g (with_lines marks d.sketch) n (frame k m ds ∷ fs) j lines next last ends rest) on walks
    where
      below : List Frame
      below = frame k (suc m - 1) ds ∷ fs

      less : below ≡ frame k m ds ∷ fs
      less = ap (λ (c : ℕ). frame k c ds ∷ fs) (let one : suc m - 1 ≡ m = omega arith in one)

      Rest : ℕ → Walked → Type 0
      Rest = WalksBelow reason g (with_lines marks d.sketch) n

      by-label : (next : Walking)
          → ((j : ℕ) (w : Walking) → OnEnd (end_of reason) g (with_lines marks d.sketch) n (frame k m ds ∷ fs) w → WalksOn g w j (lines_below reason ++ lines) last → (walked : Walked) × Rest j walked × Carries walked (λ j l. WalksOn g (ended (frame k m ds ∷ fs)) j lines l) last)
          → StopsUnless (label ≡ d.label) n stray next (OnOpened (length marks) g (opened n (length marks) (end_of reason) d.sketch) below next) → WalksOn g next (n + 1) ((map (λ m. of_marks m) marks ++ lines_below reason) ++ lines) last
          → (walked : Walked) × Walks (node label marks reason) g d n walked × Carries walked (λ j l. WalksOn g (ended (frame k m ds ∷ fs)) j lines l) last
      by-label next lower (inl x) rest = (fault_at n stray, inl (x.0, refl), stops g ((map (λ m. of_marks m) marks ++ lines_below reason) ++ lines) n (n + 1) stray next last x.1 rest)
      by-label next lower (inr x) rest =
          let parted = subst (λ (l : List Line). WalksOn g next (n + 1) l last) (append_assoc (map (λ m. of_marks m) marks) (lines_below reason) lines) rest in
          let read = marks-walk marks g n (end_of reason) d.sketch below (n + 1) (lines_below reason ++ lines) next last x.1 parted in
          let it = join (WalksMarks marks g d.sketch (n + 1)) Rest (EndsOn g (end_of reason) (with_lines marks d.sketch) n below (lines_below reason ++ lines)) (λ j l. WalksOn g (ended (frame k m ds ∷ fs)) j lines l) last read (λ j ends. lower j ends.0 (subst (λ (l : List Frame). OnEnd (end_of reason) g (with_lines marks d.sketch) n l ends.0) less ends.1) ends.2) in
          (it.0, inr (x.0, it.1), it.2)

  -- the end of a node on line top, and the lines below it
  below-walk : (r : Reason) (g : Setting) (S : Sketch) (top : ℕ) (fs : List Frame) (n : ℕ) (lines : List Line) (after last : Walking)
      → OnEnd (end_of r) g S top fs after → WalksOn g after n (lines_below r ++ lines) last
      → (walked : Walked) × WalksBelow r g S top n walked × Carries walked (λ j l. WalksOn g (ended fs) j lines l) last
  below-walk void g S top fs n lines after last on walks = leaf-walk _ g top n fs lines after last on walks
  below-walk (closed k) g S top fs n lines after last on walks = leaf-walk _ g top n fs lines after last on walks
  below-walk (steps ns) g S top fs n lines after last (inl x) walks = (fault_at top unsupported, inl (x.0, refl), stops g (lines_each ns ++ lines) top n unsupported after last x.1 walks)
  below-walk (steps ns) g S top fs n lines after last (inr (T, before, e)) walks =
      let it = each-walk ns g (map due_of (earlier g.odds g.exact T)) top (count ns) fs n lines last refl (subst (λ (k : Walking). WalksOn g k n (lines_each ns ++ lines) last) e walks) in
      (it.0, inr (T, before, it.1), it.2)
  below-walk (split s knight rook queen) g S top fs n lines after last (inl x) walks = (fault_at top unsupported, inl (x.0, refl), stops g ((lines_of knight ++ (lines_of rook ++ lines_of queen)) ++ lines) top n unsupported after last x.1 walks)
  below-walk (split s knight rook queen) g S top fs n lines after last (inr (i, first, e)) walks =
      let a : Due = case_due officer.Knight i S in
      let b : Due = case_due officer.Rook i S in
      let c : Due = case_due officer.Queen i S in
      let Go : ℕ → Walking → Type 0 = λ j l. WalksOn g (ended fs) j lines l in
      let Last : ℕ → Walked → Type 0 = λ l w. Walks queen g c l w in
      let Middle : ℕ → Walked → Type 0 = λ l w. (z : Walked) × Walks rook g b l z × Onwards z Last w in
      let begun : WalksOn g (going None (frame top 3 (a ∷ b ∷ c ∷ []) ∷ fs)) n ((lines_of knight ++ (lines_of rook ++ lines_of queen)) ++ lines) last = subst (λ (k : Walking). WalksOn g k n ((lines_of knight ++ (lines_of rook ++ lines_of queen)) ++ lines) last) e walks in
      let parted : WalksOn g (going None (frame top 3 (a ∷ b ∷ c ∷ []) ∷ fs)) n (lines_of knight ++ (lines_of rook ++ (lines_of queen ++ lines))) last =
      subst (λ (l : List Line). WalksOn g (going None (frame top 3 (a ∷ b ∷ c ∷ []) ∷ fs)) n l last) (append_assoc (lines_of knight) (lines_of rook ++ lines_of queen) lines ∙ ap (λ (l : List Line). lines_of knight ++ l) (append_assoc (lines_of rook) (lines_of queen) lines)) begun in
      let it = join (Walks knight g a n) Middle (λ j l. WalksOn g (ended (frame top 2 (b ∷ c ∷ []) ∷ fs)) j (lines_of rook ++ (lines_of queen ++ lines)) l) Go last (node-walk knight g top 2 a (b ∷ c ∷ []) fs n (lines_of rook ++ (lines_of queen ++ lines)) last parted)
      (λ j second. join (Walks rook g b j) Last (λ h l. WalksOn g (ended (frame top 1 (c ∷ []) ∷ fs)) h (lines_of queen ++ lines) l) Go last (node-walk rook g top 1 b (c ∷ []) fs j (lines_of queen ++ lines) last second)
      (λ h third. node-walk queen g top 0 c [] fs h lines last third)) in
      (it.0, inr (i, first, it.1.0, it.1.1, it.1.2), it.2)

  -- the lines of nodes, where these are due
  each-walk : (ns : Nodes) (g : Setting) (ds : List Due) (top c : ℕ) (fs : List Frame) (n : ℕ) (lines : List Line) (last : Walking)
      → c ≡ count ns → WalksOn g (ended (frame top c ds ∷ fs)) n (lines_each ns ++ lines) last
      → (walked : Walked) × WalksEach ns g ds top n walked × Carries walked (λ j l. WalksOn g (ended fs) j lines l) last
  each-walk none g ds top c fs n lines last size walks = none-walk ds g top n fs lines last (subst (λ (k : ℕ). WalksOn g (ended (frame top k ds ∷ fs)) n lines last) size walks)
  each-walk (more x ns) g ds top zero fs n lines last size walks = absurd (omega (arith, size))
  each-walk (more x ns) g [] top (suc c) fs n lines last size walks = stray-walk x walks
    where
      stray-walk : (y : Node) → WalksOn g (going None (frame top (suc c) [] ∷ fs)) n ((lines_of y ++ lines_each ns) ++ lines) last → (walked : Walked) × (walked ≡ fault_at n stray) × Carries walked (λ j l. WalksOn g (ended fs) j lines l) last
      stray-walk (node label marks reason) (after, on, rest) = (fault_at n stray, refl, stops g (((map (λ m. of_marks m) marks ++ lines_below reason) ++ lines_each ns) ++ lines) n (n + 1) stray after last on rest)
  each-walk (more x ns) g (d ∷ ds) top (suc c) fs n lines last size walks =
      let parted : WalksOn g (going None (frame top (suc c) (d ∷ ds) ∷ fs)) n (lines_of x ++ (lines_each ns ++ lines)) last = subst (λ (l : List Line). WalksOn g (going None (frame top (suc c) (d ∷ ds) ∷ fs)) n l last) (append_assoc (lines_of x) (lines_each ns) lines) walks in
      join (Walks x g d n) (WalksEach ns g ds top) (λ j l. WalksOn g (ended (frame top c ds ∷ fs)) j (lines_each ns ++ lines) l) (λ j l. WalksOn g (ended fs) j lines l) last (node-walk x g top c d ds fs n (lines_each ns ++ lines) last parted)
      (λ j rest. each-walk ns g ds top c fs j lines last (omega (arith, size)) rest)

comes : (walked : Walked) (g : Setting) (last : Walking) → Carries walked (λ j l. WalksOn g (ended (frame 0 0 [] ∷ [])) j [] l) last → ComesTo walked last
comes (fault_at n w) g last it = it
comes (next_line n) g last it = it

-- all lines of a tree
pub tree-walk : (x : Node) (g : Setting) (S : Sketch) (n : ℕ) (last : Walking) → WalksOn g (begun S) n (lines_of x) last → (walked : Walked) × Walks x g (first_due S) n walked × ComesTo walked last
tree-walk x g S n last walks =
    let it = node-walk x g 0 0 (first_due S) [] [] n [] last (subst (λ (l : List Line). WalksOn g (begun S) n l last) (sym (append-nil (lines_of x))) walks) in
    (it.0, it.1, comes it.0 g last it.2)
