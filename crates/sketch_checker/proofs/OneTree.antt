-- Some lines are those of one tree.
use Rattle.std.proofs.Common.{◌≡◌, ℕ, List, [], ◌∷◌, ◌++◌, append_assoc, append-nil, length, map, refl, ap, sym, ◌∙◌, arith}
use Rattle.general_lemmas.proofs.Lists.{same_first, same_rest}
use Rattle.sketch_text.specs.Marks.{Marks}
use Rattle.sketch_text.specs.declared.nodes.SketchNode.{SketchNode}
use Rattle.sketch_text.specs.Trees.{Line, Node, Nodes, Reason, closed, count, end_of, lines_below, lines_each, lines_of, more, node, none, of_marks, split, steps, void}
use Rattle.sketch_checker.proofs.Completing.{same-node}

same-marks : (l m : Marks) → of_marks l ≡ of_marks m → l ≡ m
same-marks l m e = cc

-- as many lines of marks before other lines
marks-one : (ls ms : List Marks) (x y : List Line) → length ls ≡ length ms → map (λ m. of_marks m) ls ++ x ≡ map (λ m. of_marks m) ms ++ y → (ls ≡ ms) × (x ≡ y)
marks-one [] [] x y many e = (refl, e)
marks-one [] (m ∷ ms) x y many e = absurd (omega (arith, many))
marks-one (l ∷ ls) [] x y many e = absurd (omega (arith, many))
marks-one (l ∷ ls) (m ∷ ms) x y many e =
    let rest = marks-one ls ms x y (omega (arith, many)) (same_rest e) in
    (ap (λ (k : Marks). k ∷ ls) (same-marks l m (same_first e)) ∙ ap (λ (ks : List Marks). m ∷ ks) rest.0, rest.1)

mutual
  node-one : (a b : Node) (x y : List Line) → lines_of a ++ x ≡ lines_of b ++ y → (a ≡ b) × (x ≡ y)
  node-one (node k ls r) (node l ms s) x y e =
      let here : SketchNode = record { label = k; marks = length ls; end = end_of r } in
      let there : SketchNode = record { label = l; marks = length ms; end = end_of s } in
      let same : here ≡ there = same-node here there (same_first e) in
      let rest = same_rest e in
      let both = marks-one ls ms (lines_below r ++ x) (lines_below s ++ y) (ap (λ (n : SketchNode). n.marks) same) (sym (append_assoc (map (λ m. of_marks m) ls) (lines_below r) x) ∙ rest ∙ append_assoc (map (λ m. of_marks m) ms) (lines_below s) y) in
      let below = reason-one r s x y (ap (λ (n : SketchNode). n.end) same) both.1 in
      (ap (λ (n : SketchNode). node n.label ls r) same ∙ ap (λ (ks : List Marks). node l ks r) both.0 ∙ ap (node l ms) below.0, below.1)

  reason-one : (r s : Reason) (x y : List Line) → end_of r ≡ end_of s → lines_below r ++ x ≡ lines_below s ++ y → (r ≡ s) × (x ≡ y)
  reason-one void void x y end e = (refl, e)
  reason-one void (closed k) x y end e = cc
  reason-one void (steps ns) x y end e = cc
  reason-one void (split s a b c) x y end e = cc
  reason-one (closed j) void x y end e = cc
  reason-one (closed j) (closed k) x y end e = let same : j ≡ k = cc in (ap closed same, e)
  reason-one (closed j) (steps ns) x y end e = cc
  reason-one (closed j) (split s a b c) x y end e = cc
  reason-one (steps ns) void x y end e = cc
  reason-one (steps ns) (closed k) x y end e = cc
  reason-one (steps ns) (steps ms) x y end e =
      let many : count ns ≡ count ms = cc in
      let both = nodes-one ns ms x y many e in
      (ap steps both.0, both.1)
  reason-one (steps ns) (split s a b c) x y end e = cc
  reason-one (split s a b c) void x y end e = cc
  reason-one (split s a b c) (closed k) x y end e = cc
  reason-one (split s a b c) (steps ns) x y end e = cc
  reason-one (split s a b c) (split t d f g) x y end e =
      let square : s ≡ t = cc in
      let first = node-one a d ((lines_of b ++ lines_of c) ++ x) ((lines_of f ++ lines_of g) ++ y) (sym (append_assoc (lines_of a) (lines_of b ++ lines_of c) x) ∙ e ∙ append_assoc (lines_of d) (lines_of f ++ lines_of g) y) in
      let second = node-one b f (lines_of c ++ x) (lines_of g ++ y) (sym (append_assoc (lines_of b) (lines_of c) x) ∙ first.1 ∙ append_assoc (lines_of f) (lines_of g) y) in
      let third = node-one c g x y second.1 in
      (ap (λ (n : ℕ). split n a b c) square ∙ ap (λ (n : Node). split t n b c) first.0 ∙ ap (λ (n : Node). split t d n c) second.0 ∙ ap (split t d f) third.0, third.1)

  nodes-one : (ns ms : Nodes) (x y : List Line) → count ns ≡ count ms → lines_each ns ++ x ≡ lines_each ms ++ y → (ns ≡ ms) × (x ≡ y)
  nodes-one none none x y many e = (refl, e)
  nodes-one none (more m ms) x y many e = absurd (omega (arith, many))
  nodes-one (more n ns) none x y many e = absurd (omega (arith, many))
  nodes-one (more n ns) (more m ms) x y many e =
      let first = node-one n m (lines_each ns ++ x) (lines_each ms ++ y) (sym (append_assoc (lines_of n) (lines_each ns) x) ∙ e ∙ append_assoc (lines_of m) (lines_each ms) y) in
      let rest = nodes-one ns ms x y (omega (arith, many)) first.1 in
      (ap (λ (k : Node). more k ns) first.0 ∙ ap (more m) rest.0, rest.1)

pub one-tree : (a b : Node) → lines_of a ≡ lines_of b → a ≡ b
one-tree a b e = (node-one a b [] [] (append-nil (lines_of a) ∙ e ∙ sym (append-nil (lines_of b)))).0
