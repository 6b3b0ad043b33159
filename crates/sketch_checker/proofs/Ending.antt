-- What the end of a node does to the lines that complete a walk.
use Rattle.std.proofs.Common.{◌≡◌, ℕ, ◌+◌, ◌≤◌, false, List, [], ◌∷◌, ◌++◌, append-nil, length, map, refl, ap, sym, ◌∙◌, subst, arith}
use Rattle.figures.specs.Figures.{Sketch}
use Rattle.figures.specs.Homes.{may_be_array}
use Rattle.sketch_proof.specs.Listed.{Earlier, earlier}
use Rattle.sketch_proof.specs.Nodes.{IsFirstUnknown, IsLeastAbove, IsVoid}
use Rattle.sketch_proof.specs.Basis.{IsClosedAt}
use Rattle.sketch_text.specs.Marks.{Marks}
use Rattle.sketch_text.specs.declared.labels.Officer.TheVariants.{Knight}
use Rattle.sketch_text.specs.declared.nodes.End.{End}
use Rattle.sketch_text.specs.declared.nodes.End.TheVariants.{Void, Closed, Steps, Split}
use Rattle.sketch_text.specs.Trees.{Line, Nodes, Reason, closed, count, end_of, height_below, height_each, lines_below, lines_each, lines_of, more, none, of_marks, split, steps, void}
use Rattle.sketch_proof.specs.Proofs.{AtLine, Ends, HoldEach, Setting, with_lines}
use Rattle.sketch_checker.specs.Walks.{AreDue, Completes, CompletesOpened, Frame}
use Rattle.sketch_checker.specs.Steering.{read}
use Rattle.sketch_checker.proofs.Completing.{frame}
use Rattle.sketch_checker.specs.DueNodes.{cases_from, due_of}

module _ (g : Setting) (l j : ℕ) (S : Sketch) (fs : List Frame) (lines : List Line) where
  -- what is left when all marks are read
  end-told : (e : End) → CompletesOpened g (read l e S) fs lines → (r : Reason) × (rest : List Line) × (end_of r ≡ e) × Ends r g S × (height_below r + length fs ≤ 65) × (lines ≡ lines_below r ++ rest) × Completes g fs rest
  end-told e it = no-marks it.marks refl
    where
      no-marks : (ms : List Marks) → it.marks ≡ ms → (r : Reason) × (rest : List Line) × (end_of r ≡ e) × Ends r g S × (height_below r + length fs ≤ 65) × (lines ≡ lines_below r ++ rest) × Completes g fs rest
      no-marks [] same =
          (it.reason, it.rest, it.end, subst (λ (x : List Marks). Ends it.reason g (with_lines x S)) same it.holds, it.low, it.lines_are ∙ ap (λ (x : List Marks). map (λ m. of_marks m) x ++ (lines_below it.reason ++ it.rest)) same, it.completes)
      no-marks (m ∷ ms) same = let many : ⊥ = omega (arith, it.many, ap (λ (x : List Marks). length x) same) in absurd many

  end-tells : (r : Reason) (rest : List Line) → Ends r g S → height_below r + length fs ≤ 65 → lines ≡ lines_below r ++ rest → Completes g fs rest → CompletesOpened g (read l (end_of r) S) fs lines
  end-tells r rest holds low lines_are done = record { marks = []; reason = r; rest = rest; many = refl; end = refl; forced = tt; holds = holds; low = low; lines_are = lines_are; completes = done }

  pub void-told : CompletesOpened g (read l Void S) fs lines → IsVoid g.odds g.held S × Completes g fs lines
  void-told it = by-reason (end-told Void it)
    where
      by-reason : (r : Reason) × (rest : List Line) × (end_of r ≡ Void) × Ends r g S × (height_below r + length fs ≤ 65) × (lines ≡ lines_below r ++ rest) × Completes g fs rest → IsVoid g.odds g.held S × Completes g fs lines
      by-reason (void, rest, same, holds, low, lines_are, done) = (holds, subst (Completes g fs) (sym lines_are) done)
      by-reason (closed k, rest, same, holds, low, lines_are, done) = cc
      by-reason (steps ns, rest, same, holds, low, lines_are, done) = cc
      by-reason (split s a b d, rest, same, holds, low, lines_are, done) = cc

  pub void-tells : length fs ≤ 65 → IsVoid g.odds g.held S → Completes g fs lines → CompletesOpened g (read l Void S) fs lines
  void-tells few holds done = end-tells void lines holds (omega arith) refl done

  pub closed-told : (k : ℕ) → CompletesOpened g (read l (Closed k) S) fs lines → AtLine g k (λ p. IsClosedAt g.odds g.held S p) × Completes g fs lines
  closed-told k it = by-reason (end-told (Closed k) it)
    where
      by-reason : (r : Reason) × (rest : List Line) × (end_of r ≡ Closed k) × Ends r g S × (height_below r + length fs ≤ 65) × (lines ≡ lines_below r ++ rest) × Completes g fs rest → AtLine g k (λ p. IsClosedAt g.odds g.held S p) × Completes g fs lines
      by-reason (closed j, rest, same, holds, low, lines_are, done) =
          let j_is : j ≡ k = cc in
          (subst (λ (n : ℕ). AtLine g n (λ p. IsClosedAt g.odds g.held S p)) j_is holds, subst (Completes g fs) (sym lines_are) done)
      by-reason (void, rest, same, holds, low, lines_are, done) = cc
      by-reason (steps ns, rest, same, holds, low, lines_are, done) = cc
      by-reason (split s a b d, rest, same, holds, low, lines_are, done) = cc

  pub closed-tells : (k : ℕ) → length fs ≤ 65 → AtLine g k (λ p. IsClosedAt g.odds g.held S p) → Completes g fs lines → CompletesOpened g (read l (Closed k) S) fs lines
  closed-tells k few holds done = end-tells (closed k) lines holds (omega arith) refl done

  -- the nodes that are due are those of the steps
  each-due : (ns : Nodes) (es : List Earlier) → HoldEach ns g es → AreDue ns g (map due_of es)
  each-due none [] it = tt
  each-due none (e ∷ es) it = absurd it
  each-due (more n ns) [] it = absurd it
  each-due (more n ns) (e ∷ es) it = (it.0, each-due ns es it.1)

  due-each : (ns : Nodes) (es : List Earlier) → AreDue ns g (map due_of es) → HoldEach ns g es
  due-each none [] it = tt
  due-each none (e ∷ es) it = absurd it
  due-each (more n ns) [] it = absurd it
  due-each (more n ns) (e ∷ es) it = (it.0, due-each ns es it.1)

  pub steps-told : (m : ℕ) → CompletesOpened g (read l (Steps m) S) fs lines → (T : Sketch) × IsLeastAbove g.held g.exact S T × (may_be_array g.odds T ≡ false) × Completes g (frame j m (map due_of (earlier g.odds g.exact T)) ∷ fs) lines
  steps-told m it = by-reason (end-told (Steps m) it)
    where
      by-reason : (r : Reason) × (rest : List Line) × (end_of r ≡ Steps m) × Ends r g S × (height_below r + length fs ≤ 65) × (lines ≡ lines_below r ++ rest) × Completes g fs rest
          → (T : Sketch) × IsLeastAbove g.held g.exact S T × (may_be_array g.odds T ≡ false) × Completes g (frame j m (map due_of (earlier g.odds g.exact T)) ∷ fs) lines
      by-reason (steps ns, rest, same, holds, low, lines_are, done) =
          let many : count ns ≡ m = cc in
          (holds.0, holds.1, holds.2, (ns, rest, many, each-due ns (earlier g.odds g.exact holds.0) holds.3, low, lines_are, done))
      by-reason (void, rest, same, holds, low, lines_are, done) = cc
      by-reason (closed k, rest, same, holds, low, lines_are, done) = cc
      by-reason (split s a b d, rest, same, holds, low, lines_are, done) = cc

  pub steps-tells : (m : ℕ) (T : Sketch) → IsLeastAbove g.held g.exact S T → may_be_array g.odds T ≡ false → Completes g (frame j m (map due_of (earlier g.odds g.exact T)) ∷ fs) lines → CompletesOpened g (read l (Steps m) S) fs lines
  steps-tells m T least no_array it =
      let ns : Nodes = it.0 in
      subst (λ (n : ℕ). CompletesOpened g (read l (Steps n) S) fs lines) it.2
      (end-tells (steps ns) it.1 (T, least, no_array, due-each ns (earlier g.odds g.exact T) it.3) it.4 it.5 it.6)

  pub split-told : (s : ℕ) → CompletesOpened g (read l (Split s) S) fs lines → (i : ℕ) × IsFirstUnknown S s i × Completes g (frame j 3 (cases_from Knight i S) ∷ fs) lines
  split-told s it = by-reason (end-told (Split s) it)
    where
      by-reason : (r : Reason) × (rest : List Line) × (end_of r ≡ Split s) × Ends r g S × (height_below r + length fs ≤ 65) × (lines ≡ lines_below r ++ rest) × Completes g fs rest → (i : ℕ) × IsFirstUnknown S s i × Completes g (frame j 3 (cases_from Knight i S) ∷ fs) lines
      by-reason (split t a b d, rest, same, holds, low, lines_are, done) =
          let t_is : t ≡ s = cc in
          (holds.0, subst (λ (n : ℕ). IsFirstUnknown S n holds.0) t_is holds.1, (more a (more b (more d none)), rest, refl, (holds.2, (holds.3, (holds.4, tt))), omega arith, lines_are ∙ three (lines_of a) (lines_of b) (lines_of d) rest, done))
        where
          three : (u v w x : List Line) → (u ++ (v ++ w)) ++ x ≡ (u ++ (v ++ (w ++ []))) ++ x
          three u v w x = ap (λ (ls : List Line). (u ++ (v ++ ls)) ++ x) (sym (append-nil w))
      by-reason (void, rest, same, holds, low, lines_are, done) = cc
      by-reason (closed k, rest, same, holds, low, lines_are, done) = cc
      by-reason (steps ns, rest, same, holds, low, lines_are, done) = cc

  pub split-tells : (s i : ℕ) → IsFirstUnknown S s i → Completes g (frame j 3 (cases_from Knight i S) ∷ fs) lines → CompletesOpened g (read l (Split s) S) fs lines
  split-tells s i first (ns, rest, many, due, low, lines_are, done) = by-nodes ns many due low lines_are
    where
      three : (u v w x : List Line) → (u ++ (v ++ (w ++ []))) ++ x ≡ (u ++ (v ++ w)) ++ x
      three u v w x = ap (λ (ls : List Line). (u ++ (v ++ ls)) ++ x) (append-nil w)

      by-nodes : (ns : Nodes) → count ns ≡ 3 → AreDue ns g (cases_from Knight i S) → height_each ns + length fs ≤ 65 → lines ≡ lines_each ns ++ rest → CompletesOpened g (read l (Split s) S) fs lines
      by-nodes (more a (more b (more d none))) many due low lines_are =
          end-tells (split s a b d) rest (i, first, due.0, due.1.0, due.1.1.0) (omega arith) (lines_are ∙ three (lines_of a) (lines_of b) (lines_of d) rest) done
      by-nodes none many due low lines_are = absurd due
      by-nodes (more a none) many due low lines_are = absurd due.1
      by-nodes (more a (more b none)) many due low lines_are = absurd due.1.1
      by-nodes (more a (more b (more d (more e ns)))) many due low lines_are = absurd due.1.1.1
