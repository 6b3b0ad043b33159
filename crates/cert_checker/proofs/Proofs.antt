-- A walk meets no fault exactly where the tree proves its query.
use Rattle.std.proofs.Common.{◌≡◌, ℕ, ◌+◌, inl, inr, List, [], ◌∷◌, length, refl, sym, ap, subst}
use Rattle.std.proofs.lemmas.Cmp.{tied_itself}
use Rattle.std.specs.List.{Contains}
use Rattle.std.specs.declared.cmp.Ordering.{Ordering}
use Rattle.std.specs.declared.cmp.Ordering.TheVariants.{Less, Equal, Greater}
use Rattle.board_base.specs.Texts.{unmove_order}
use Rattle.board_base.specs.declared.unmoves.Unmove.{Unmove}
use Rattle.board_base.proofs.Ordered.{unmove_order_total, unmove_order_exact}
use Rattle.query_base.specs.Asked.{Asked}
use Rattle.sketch_body.specs.Bodies.{Body}
use Rattle.sketch_checker.specs.TreeWalk.{Walked as SketchWalked}
use Rattle.sketch_checker.specs.TreeWalk as sketches
use Rattle.sketch_checker.proofs.Supporting.{bodies-exact}
use Rattle.unmove_gen.specs.Listed.{unmoves}
use Rattle.unmove_gen.specs.Predecessor.{predecessor}
use Rattle.cert_text.specs.Tree.{Tree, Forest, rule, back, expand, sketch, none, more}
use Rattle.cert_text.specs.Certificate.{Lines, Certificate, AreLinesOf, root_at}
use Rattle.cert_checker.specs.Proving.{Proves, ProvesEach, ProvesClaim}
use Rattle.cert_checker.specs.Sketches.{IsSketchOf, WalksSketch, files_of}
use Rattle.cert_checker.specs.Walk.{Walked, fault_at, next_line, Onwards, ByLabel, Walks, WalksEach, WalksTo, walked_by}
use Rattle.general_lemmas.proofs.Lists.{contains-first, contains-later}
use Rattle.cert_checker.proofs.Walks.{WalksKid, by_label}
use Rattle.cert_checker.proofs.Written.{CanBeWritten, IsWritten, AreWritten, tree_written}
use Rattle.unmove_gen.proofs.Spelled.{captures_spelled}

-- where a child brings no fault, its label is the unmove
is_label : (o : Ordering) (u : Unmove) (n m : ℕ) (Kid : Type 0) → ByLabel o u n (next_line m) Kid → (o ≡ Equal) × Kid
is_label Less u n m Kid by = absurd (cc)
is_label Equal u n m Kid by = (refl, by)
is_label Greater u n m Kid by = absurd (cc)

-- where what goes on after a part brings no fault, the part brings none
is_past : (kid : Walked) (m : ℕ) (Rest : ℕ → Walked → Type 0) → Onwards kid Rest (next_line m) → (k : ℕ) × (kid ≡ next_line k) × Rest k (next_line m)
is_past (fault_at n f) m Rest on = absurd (cc)
is_past (next_line k) m Rest on = (k, refl, on)

sketch_clean : (b : Body) (q : Asked) (n m : ℕ) (k : SketchWalked) → WalksSketch b q n k → next_line m ≡ walked_by k → IsSketchOf b q
sketch_clean b q n m (sketches.fault_at j w) walks e = absurd cc
sketch_clean b q n m (sketches.next_line j) walks e = (bodies-exact q (files_of b.files) b.prices b.lines (n + 1 + length b.prices)).0 (j, walks)

sketch_supports : (b : Body) (q : Asked) (n : ℕ) → IsSketchOf b q → (m : ℕ) × WalksSketch b q n (sketches.next_line m)
sketch_supports b q n supports = (bodies-exact q (files_of b.files) b.prices b.lines (n + 1 + length b.prices)).1 supports

mutual
  clean_proves : (t : Tree) (q : Asked) (ancestors : List Asked) (n m : ℕ) → IsWritten t → Walks t q ancestors n (next_line m) → Proves t q ancestors
  clean_proves (rule r) q ancestors n m w walks = walks.0
  clean_proves (back k) q ancestors n m w walks = walks.0
  clean_proves (expand kids) q ancestors n m w (inl (here, e)) = absurd (cc)
  clean_proves (expand kids) q ancestors n m w (inr (elsewhere, walks)) =
      (elsewhere, clean_each kids q (unmoves q) ancestors n (n + 1) m w (captures_spelled q) walks)
  clean_proves (sketch b) q ancestors n m w (k, walks, e) = sketch_clean b q n m k walks e

  clean_each : (f : Forest) (q : Asked) (us : List Unmove) (ancestors : List Asked) (top n m : ℕ) → AreWritten f → ((u : Unmove) → Contains us u → CanBeWritten u) → WalksEach f q us ancestors top n (next_line m) → ProvesEach f q us ancestors
  clean_each none q [] ancestors top n m w all walks = refl
  clean_each none q (u ∷ us) ancestors top n m w all walks = absurd (cc)
  clean_each (more label t rest) q [] ancestors top n m w all walks = absurd (cc)
  clean_each (more label t rest) q (u ∷ us) ancestors top n m w all walks =
      let kid = is_label (unmove_order label u) u n m (WalksKid t rest q u us ancestors top n (next_line m)) walks in
      let same : u ≡ label = sym (unmove_order_exact label u w.0 (all u (contains-first u us)) kid.0) in
      let past = is_past kid.1.0 m (WalksEach rest q us ancestors top) kid.1.2 in
      let here : Walks t (predecessor q u) (q ∷ ancestors) n (next_line past.0) = subst (Walks t (predecessor q u) (q ∷ ancestors) n) past.1 kid.1.1 in (
        us,
        ap (λ (v : Unmove). v ∷ us) same,
        subst (λ (v : Unmove). Proves t (predecessor q v) (q ∷ ancestors)) same (clean_proves t (predecessor q u) (q ∷ ancestors) n past.0 w.1 here),
        clean_each rest q us ancestors top past.0 m w.2 (λ v there. all v (contains-later u us v there)) past.2,
      )

mutual
  proves_clean : (t : Tree) (q : Asked) (ancestors : List Asked) (n : ℕ) → Proves t q ancestors → (m : ℕ) × Walks t q ancestors n (next_line m)
  proves_clean (rule r) q ancestors n proves = (n + 1, (proves, refl))
  proves_clean (back k) q ancestors n proves = (n + 1, (proves, refl))
  proves_clean (expand kids) q ancestors n proves =
      let each = each_clean kids q (unmoves q) ancestors n (n + 1) proves.1 in
      (each.0, inr (proves.0, each.1))
  proves_clean (sketch b) q ancestors n proves = let it = sketch_supports b q n proves in (it.0, (sketches.next_line it.0, it.1, refl))

  each_clean : (f : Forest) (q : Asked) (us : List Unmove) (ancestors : List Asked) (top n : ℕ) → ProvesEach f q us ancestors → (m : ℕ) × WalksEach f q us ancestors top n (next_line m)
  each_clean none q us ancestors top n none-left = (n, subst (λ (vs : List Unmove). WalksEach none q vs ancestors top n (next_line n)) (sym none-left) refl)
  each_clean (more label t rest) q us ancestors top n (others, first, proves, each) =
      let kid = proves_clean t (predecessor q label) (q ∷ ancestors) n proves in
      let later = each_clean rest q others ancestors top kid.0 each in (
        later.0,
        by_label (more label t rest) rest q us others ancestors top n label label t (next_line later.0) Equal refl first (sym (tied_itself unmove_order_total label)) (next_line kid.0, kid.1, later.1),
      )

-- the walk of a certificate that has a text meets no fault exactly where it proves its claim
pub walk_proves : (lines : Lines) (cert : Certificate) → AreLinesOf lines cert → (((n : ℕ) × WalksTo cert (next_line n)) → ProvesClaim cert) × (ProvesClaim cert → (n : ℕ) × WalksTo cert (next_line n))
walk_proves lines cert text = (
  λ clean. clean_proves cert.root _ [] (root_at cert.query) clean.0 (tree_written cert.root 0 text.below text.nodes) clean.1,
  proves_clean cert.root _ [] (root_at cert.query),
)
