-- The walk over the lines of a tree is the walk of the tree.
use Rattle.std.proofs.Common.{◌≡◌, ℕ, zero, suc, ◌+◌, ◌-◌, ◌≤◌, inl, inr, List, [], ◌∷◌, ◌++◌, length, map, refl, ap, ◌∙◌, subst, arith, append_assoc}
use Rattle.std.specs.Prelude.{Option, IsSomeAnd}
use Rattle.std.specs.declared.cmp.Ordering.{Ordering}
use Rattle.std.specs.declared.cmp.Ordering.TheVariants.{Less, Equal, Greater}
use Rattle.board_base.specs.Texts.{unmove_order}
use Rattle.board_base.specs.declared.unmoves.Unmove.{Unmove}
use Rattle.query_base.specs.Asked.{Asked}
use Rattle.query_base.specs.Targets.{Covers}
use Rattle.cert_checker.specs.Reasons.{ReasonSupports}
use Rattle.unmove_gen.specs.Listed.{unmoves}
use Rattle.unmove_gen.specs.Predecessor.{predecessor}
use Rattle.sketch_body.specs.Bodies.{head_of, most_units}
use Rattle.sketch_checker.specs.TreeWalk.{Walked as SketchWalked}
use Rattle.sketch_checker.specs.TreeWalk as sketches
use Rattle.cert_text.specs.Tree.{Tree, Forest, rule, back, expand, sketch, none, more, count, units_each, units_in}
use Rattle.cert_text.specs.Certificate.{Lines, AreBelow, AreKids, body_of}
use Rattle.cert_text.specs.declared.node_lines.BodyLine.{BodyLine}
use Rattle.query_base.specs.Ancestors.{ancestor}
use Rattle.cert_checker.specs.Walk.{Walked, fault_at, next_line, unlisted, unsupported, Unless, ByLabel, Walks, WalksEach, walked_by}
use Rattle.cert_checker.specs.Frames.{Walking, going, sketching, stopped, first_sketched, query_of_frame, Stays, OnBody, OnLabel, OnKid, OnSaid, WalksOn}
use Rattle.cert_checker.specs.declared.refusals.Why.{Why}
use Rattle.cert_checker.specs.declared.refusals.Why.TheVariants as why
use Rattle.cert_checker.specs.Kept.{Frame}
use Rattle.cert_checker.proofs.SketchTrees.{SketchCarries, sketch_walk}
use Rattle.cert_checker.proofs.Stopping.{stopped_on, stops}
use Rattle.cert_checker.proofs.Walks.{WalksKid}

-- a fault of the walk of a tree, or what goes on after it
abbrev pub Carries : Walked → (ℕ → Walking → Type 0) → Walking → Type 0
Carries (fault_at n f) Go last = last ≡ stopped n f
Carries (next_line n) Go last = Go n last

-- the walk goes on at these frames over these lines
abbrev pub GoesOn : List Frame → Lines → ℕ → Walking → Type 0
GoesOn frames lines m last = WalksOn (going frames) m lines last

-- a node of one line
stays_walk : (P : Type 0) (w : Why) (frames : List Frame) (n : ℕ) (lines : Lines) (after last : Walking) → Stays P w frames n after → WalksOn after (n + 1) lines last → (kid : Walked) × Unless P w n kid × Carries kid (GoesOn frames lines) last
stays_walk P w frames n lines (going fs) last (p, same) walks =
    (next_line (n + 1), (p, refl), subst (λ (l : List Frame). WalksOn (going l) (n + 1) lines last) same walks)
stays_walk P w frames n lines (sketching s fs) last on walks = absurd on
stays_walk P w frames n lines (stopped m f) last fails walks = (fault_at m f, fails, stopped_on lines m (n + 1) f last walks)

-- a frame that has no child due
no_more_due : (left : List Unmove) (q : Asked) (line : ℕ) (frames : List Frame) (n : ℕ) (lines : Lines) (last : Walking) → WalksOn (going (record { query = q; left = left; due = 0; line = line } ∷ frames)) n lines last → (kid : Walked) × WalksEach none q left (map query_of_frame frames) line n kid × Carries kid (GoesOn frames lines) last
no_more_due [] q line frames n [] last walks = (next_line n, refl, walks)
no_more_due [] q line frames n (l ∷ lines) last walks = (next_line n, refl, walks)
no_more_due (u ∷ us) q line frames n [] last walks = (fault_at line (unlisted u), refl, walks)
no_more_due (u ∷ us) q line frames n (l ∷ lines) last (after, on, walks) =
    (fault_at line (unlisted u), refl, stops lines line (n + 1) (unlisted u) after last on walks)

-- a child by its label
by_order : (o : Ordering) (u : Unmove) (n : ℕ) (Kid : Type 0) (Each : Walked → Type 0) (Go : ℕ → Walking → Type 0) (lines : Lines) (after last : Walking) → OnLabel o u n Kid after → WalksOn after (n + 1) lines last → (Kid → (kid : Walked) × Each kid × Carries kid Go last) → (kid : Walked) × ByLabel o u n kid (Each kid) × Carries kid Go last
by_order Less u n Kid Each Go lines after last e walks go = (fault_at n (unsupported why.Stray), refl, stops lines n (n + 1) _ after last e walks)
by_order Equal u n Kid Each Go lines after last on walks go = go on
by_order Greater u n Kid Each Go lines after last e walks go = (fault_at n (unlisted u), refl, stops lines n (n + 1) _ after last e walks)

-- a child's walk, and that of the children after it
join : (k : Walked) (t : Tree) (rest : Forest) (q : Asked) (u : Unmove) (us : List Unmove) (ancestors : List Asked) (top n : ℕ) (Next Go : ℕ → Walking → Type 0) (last : Walking) → Walks t (predecessor q u) (q ∷ ancestors) n k → Carries k Next last → ((m : ℕ) → Next m last → (kid : Walked) × WalksEach rest q us ancestors top m kid × Carries kid Go last) → (kid : Walked) × WalksKid t rest q u us ancestors top n kid × Carries kid Go last
join (fault_at m f) t rest q u us ancestors top n Next Go last walks carries later = (fault_at m f, (fault_at m f, walks, refl), carries)
join (next_line m) t rest q u us ancestors top n Next Go last walks carries later =
    let each = later m carries in
    (each.0, (next_line m, walks, each.1), each.2)

-- a child's line, and what follows it
kid_walk : (label : Unmove) (t : Tree) (others : Forest) (left : List Unmove) (q : Asked) (c line : ℕ) (frames : List Frame) (n : ℕ) (below after-lines lines : Lines) (after last : Walking) → c ≡ count others
    → OnKid (record { query = q; left = left; due = suc c; line = line }) frames n label (body_of t) after → WalksOn after (n + 1) (below ++ (after-lines ++ lines)) last
    → ((u : Unmove) (here : Frame) → OnBody (body_of t) (predecessor q u) (here ∷ frames) n after → (kid : Walked) × Walks t (predecessor q u) (here.query ∷ map query_of_frame frames) n kid × Carries kid (GoesOn (here ∷ frames) (after-lines ++ lines)) last)
    → ((us : List Unmove) (d : ℕ) → d ≡ count others → (m : ℕ) → WalksOn (going (record { query = q; left = us; due = d; line = line } ∷ frames)) m (after-lines ++ lines) last → (kid : Walked) × WalksEach others q us (map query_of_frame frames) line m kid × Carries kid (GoesOn frames lines) last)
    → (kid : Walked) × WalksEach (more label t others) q left (map query_of_frame frames) line n kid × Carries kid (GoesOn frames lines) last
kid_walk label t others [] q c line frames n below after-lines lines after last size on walks tree each =
    (fault_at n (unsupported why.Stray), refl, stops (below ++ (after-lines ++ lines)) n (n + 1) _ after last on walks)
kid_walk label t others (u ∷ us) q c line frames n below after-lines lines after last size on walks tree each =
    let above : List Asked = map query_of_frame frames in
    let here : Frame = record { query = q; left = us; due = suc c - 1; line = line } in
    let fewer-due : suc c - 1 ≡ count others = omega arith in
    by_order (unmove_order label u) u n (OnBody (body_of t) (predecessor q u) (here ∷ frames) n after) (WalksKid t others q u us above line n) (GoesOn frames lines) (below ++ (after-lines ++ lines)) after last on walks
    (λ body.
    let k = tree u here body in
    join k.0 t others q u us above line n (GoesOn (here ∷ frames) (after-lines ++ lines)) (GoesOn frames lines) last k.1 k.2 (λ m rest. each us (suc c - 1) fewer-due m rest))

-- a sketch
sketch_carries : (k : SketchWalked) (frames : List Frame) (lines : Lines) (last : Walking) → SketchCarries k frames lines last → Carries (walked_by k) (GoesOn frames lines) last
sketch_carries (sketches.fault_at n w) frames lines last it = it
sketch_carries (sketches.next_line n) frames lines last it = it

mutual
  -- the lines of a tree
  pub tree_walk : (t : Tree) (q : Asked) (frames : List Frame) (n : ℕ) (front lines : Lines) (after last : Walking) → units_in t ≤ most_units → AreBelow t (length frames) front → OnBody (body_of t) q frames n after → WalksOn after (n + 1) (front ++ lines) last → (kid : Walked) × Walks t q (map query_of_frame frames) n kid × Carries kid (GoesOn frames lines) last
  tree_walk (rule r) q frames n front lines after last few below on walks =
      stays_walk (ReasonSupports q r) why.Rule frames n lines after last on (subst (λ (l : Lines). WalksOn after (n + 1) (l ++ lines) last) below walks)
  tree_walk (back k) q frames n front lines after last few below on walks =
      stays_walk (IsSomeAnd (ancestor (map query_of_frame frames) k) (λ a. Covers a q)) why.Back frames n lines after last on (subst (λ (l : Lines). WalksOn after (n + 1) (l ++ lines) last) below walks)
  tree_walk (expand kids) q frames n front lines (going fs) last few below (elsewhere, same) walks =
      let each = kids_walk kids (unmoves q) q (count kids) n frames (n + 1) front lines last refl few below (subst (λ (l : List Frame). WalksOn (going l) (n + 1) (front ++ lines) last) same walks) in
      (each.0, inr (elsewhere, each.1), each.2)
  tree_walk (expand kids) q frames n front lines (stopped m f) last few below (here, number, why-is) walks =
      (fault_at m f, inl (here, ap (λ (k : ℕ). fault_at k f) number ∙ ap (fault_at n) why-is), stopped_on (front ++ lines) m (n + 1) f last walks)
  tree_walk (expand kids) q frames n front lines (sketching s fs) last few below on walks = absurd on
  tree_walk (sketch b) q frames n front lines after last few (texts, e, are) on walks =
      let here = subst (λ (w : Walking). WalksOn w (n + 1) (front ++ lines) last) on walks in
      let it = sketch_walk b q n texts frames lines last are few (subst (λ (l : Lines). WalksOn (sketching (first_sketched q (head_of b)) frames) (n + 1) (l ++ lines) last) e here) in
      (walked_by it.0, (it.0, it.1, refl), sketch_carries it.0 frames lines last it.2)

  -- the lines of children
  kids_walk : (f : Forest) (left : List Unmove) (q : Asked) (c line : ℕ) (frames : List Frame) (n : ℕ) (front lines : Lines) (last : Walking) → c ≡ count f → units_each f ≤ most_units → AreKids f (suc (length frames)) front → WalksOn (going (record { query = q; left = left; due = c; line = line } ∷ frames)) n (front ++ lines) last → (kid : Walked) × WalksEach f q left (map query_of_frame frames) line n kid × Carries kid (GoesOn frames lines) last
  kids_walk none left q c line frames n front lines last size few kids walks =
      no_more_due left q line frames n lines last (subst (λ (d : ℕ). WalksOn (going (record { query = q; left = left; due = d; line = line } ∷ frames)) n lines last) size (subst (λ (l : Lines). WalksOn (going (record { query = q; left = left; due = c; line = line } ∷ frames)) n (l ++ lines) last) kids walks))
  kids_walk (more label t others) left q zero line frames n front lines last size few kids walks = absurd (omega arith)
  kids_walk (more label t others) left q (suc c) line frames n front lines last size few kids walks =
      let here : Frame = record { query = q; left = left; due = suc c; line = line } in
      let all = subst (λ (l : Lines). WalksOn (going (here ∷ frames)) n (l ++ lines) last) kids.3 walks in
      let on = subst (λ (o : Option (Unmove × BodyLine)). OnSaid o here frames n all.0) kids.4 all.1 in
      let later = subst (λ (l : Lines). WalksOn all.0 (n + 1) l last) (append_assoc kids.1 kids.2 lines) all.2 in
      kid_walk label t others left q c line frames n kids.1 kids.2 lines all.0 last (omega arith) on later
      (λ u f body. tree_walk t (predecessor q u) (f ∷ frames) n kids.1 (kids.2 ++ lines) all.0 last (omega arith) kids.5 body later) (λ us d e m rest. kids_walk others us q d line frames m kids.2 lines last e (omega arith) kids.6 rest)
