-- A walk over a tree of nodes of a sketch that meets no fault comes to the line after the tree's.
use Rattle.std.proofs.Common.{◌≡◌, ℕ, ◌+◌, inl, inr, List, [], ◌∷◌, ◌++◌, length, map, refl, subst, arith, length-append}
use Rattle.std.proofs.lemmas.List.{length-map}
use Rattle.past_sketches.specs.Figures.{Sketch}
use Rattle.sketch_text.specs.Marks.{Marks}
use Rattle.sketch_text.specs.Trees.{Node, Nodes, Reason, closed, lines_below, lines_each, lines_of, more, node, none, of_marks, split, steps, void}
use Rattle.sketch_checker.specs.Proofs.{Setting, with_lines}
use Rattle.sketch_checker.specs.DueNodes.{Due}
use Rattle.sketch_checker.specs.TreeWalk.{Onwards, Walked, Walks, WalksBelow, WalksEach, WalksMarks, fault_at, next_line}

-- the part that was walked first met no fault either
onwards-from : (k : Walked) (Rest : ℕ → Walked → Type 0) (j : ℕ) → Onwards k Rest (next_line j) → (i : ℕ) × (k ≡ next_line i) × Rest i (next_line j)
onwards-from (fault_at n w) Rest j on = absurd cc
onwards-from (next_line i) Rest j on = (i, refl, on)

same-line : (i j : ℕ) → next_line i ≡ next_line j → i ≡ j
same-line i j e = cc

marks-count : (ms : List Marks) (g : Setting) (S : Sketch) (n j : ℕ) → WalksMarks ms g S n (next_line j) → j ≡ n + length ms
marks-count [] g S n j e = let same = same-line j n e in omega (arith, same)
marks-count (m ∷ ms) g S n j (inl x) = let e = x.1 in absurd cc
marks-count (m ∷ ms) g S n j (inr x) = let rest = marks-count ms g _ (n + 1) j x.1 in omega (arith, rest)

mutual
  pub node-count : (x : Node) (g : Setting) (d : Due) (n j : ℕ) → Walks x g d n (next_line j) → j ≡ n + length (lines_of x)
  node-count (node label marks reason) g d n j (inl x) = let e = x.1 in absurd cc
  node-count (node label marks reason) g d n j (inr (same, (k, first, on))) =
      let o = onwards-from k (WalksBelow reason g (with_lines marks d.sketch) n) j on in
      let a = marks-count marks g d.sketch (n + 1) o.0 (subst (WalksMarks marks g d.sketch (n + 1)) o.1 first) in
      let b = below-count reason g (with_lines marks d.sketch) n o.0 j o.2 in
      omega (arith, a, b, length-append (map (λ m. of_marks m) marks) (lines_below reason), length-map marks (λ m. of_marks m))

  below-count : (r : Reason) (g : Setting) (S : Sketch) (top n j : ℕ) → WalksBelow r g S top n (next_line j) → j ≡ n + length (lines_below r)
  below-count void g S top n j (inl x) = let e = x.1 in absurd cc
  below-count void g S top n j (inr x) = let same = same-line j n x.1 in omega (arith, same)
  below-count (closed k) g S top n j (inl x) = let e = x.1 in absurd cc
  below-count (closed k) g S top n j (inr x) = let same = same-line j n x.1 in omega (arith, same)
  below-count (steps ns) g S top n j (inl x) = let e = x.1 in absurd cc
  below-count (steps ns) g S top n j (inr x) = each-count ns g _ top n j x.2
  below-count (split s knight rook queen) g S top n j (inl x) = let e = x.1 in absurd cc
  below-count (split s knight rook queen) g S top n j (inr (i, known, a, first, on)) =
      let o = onwards-from a _ j on in
      let later = o.2 in
      let p = onwards-from later.0 _ j later.2 in
      let one = node-count knight g _ n o.0 (subst (Walks knight g _ n) o.1 first) in
      let two = node-count rook g _ o.0 p.0 (subst (Walks rook g _ o.0) p.1 later.1) in
      let three = node-count queen g _ p.0 j p.2 in
      omega (arith, one, two, three, length-append (lines_of knight) (lines_of rook ++ lines_of queen), length-append (lines_of rook) (lines_of queen))

  each-count : (ns : Nodes) (g : Setting) (ds : List Due) (top n j : ℕ) → WalksEach ns g ds top n (next_line j) → j ≡ n + length (lines_each ns)
  each-count none g [] top n j e = let same = same-line j n e in omega (arith, same)
  each-count none g (d ∷ ds) top n j e = absurd cc
  each-count (more x ns) g [] top n j e = absurd cc
  each-count (more x ns) g (d ∷ ds) top n j (k, first, on) =
      let o = onwards-from k (WalksEach ns g ds top) j on in
      let a = node-count x g d n o.0 (subst (Walks x g d n) o.1 first) in
      let b = each-count ns g ds top o.0 j o.2 in
      omega (arith, a, b, length-append (lines_of x) (lines_each ns))
