-- A walk comes to one thing.
use Rattle.std.proofs.Common.{◌≡◌, ℕ, ◌+◌, inl, inr, List, [], ◌∷◌, length, sym, ap, ◌∙◌, subst}
use Rattle.std.specs.declared.cmp.Ordering.{Ordering}
use Rattle.std.specs.declared.cmp.Ordering.TheVariants.{Less, Equal, Greater}
use Rattle.board_base.specs.Texts.{unmove_order}
use Rattle.board_base.specs.declared.unmoves.Unmove.{Unmove}
use Rattle.query_base.specs.Asked.{Asked}
use Rattle.query_base.specs.Ancestors.{CoversAt}
use Rattle.cert_checker.specs.Reasons.{ReasonSupports}
use Rattle.sketch_body.specs.Bodies.{Body}
use Rattle.sketch_checker.proofs.Supporting.{bodies-one}
use Rattle.sketch_checker.specs.TreeWalk.{Walked as SketchWalked}
use Rattle.unmove_gen.specs.Listed.{unmoves}
use Rattle.unmove_gen.specs.Predecessor.{predecessor}
use Rattle.cert_text.specs.Tree.{Tree, Forest, rule, back, expand, sketch, none, more}
use Rattle.cert_checker.specs.Sketches.{WalksSketch, files_of}
use Rattle.cert_checker.specs.Walk.{Walked, fault_at, next_line, Unless, Onwards, ByLabel, Walks, WalksEach, walked_by}
use Rattle.cert_checker.specs.declared.refusals.Why.{Why}
use Rattle.cert_checker.specs.declared.refusals.Why.TheVariants as why
use Rattle.cert_checker.proofs.Walks.{WalksKid}

one_unless : (P : Type 0) (w : Why) (n : ℕ) (a b : Walked) → Unless P w n a → Unless P w n b → a ≡ b
one_unless P w n (next_line i) (next_line j) x y = ap next_line (x.1 ∙ sym y.1)
one_unless P w n (next_line i) (fault_at j g) x y = absurd (y.0 x.0)
one_unless P w n (fault_at i f) (next_line j) x y = absurd (x.0 y.0)
one_unless P w n (fault_at i f) (fault_at j g) x y = ap (λ (k : ℕ). fault_at k f) (x.1 ∙ sym y.1) ∙ ap (fault_at j) (x.2 ∙ sym y.2)

one_by_label : (o : Ordering) (u : Unmove) (n : ℕ) (a b : Walked) (A B : Type 0) → (A → B → a ≡ b) → ByLabel o u n a A → ByLabel o u n b B → a ≡ b
one_by_label Less u n a b A B kid x y = x ∙ sym y
one_by_label Equal u n a b A B kid x y = kid x y
one_by_label Greater u n a b A B kid x y = x ∙ sym y

one_onwards : (kid : Walked) (Rest : ℕ → Walked → Type 0) (a b : Walked) → ((n : ℕ) → Rest n a → Rest n b → a ≡ b) → Onwards kid Rest a → Onwards kid Rest b → a ≡ b
one_onwards (fault_at n f) Rest a b rest x y = x ∙ sym y
one_onwards (next_line n) Rest a b rest x y = rest n x y

one_sketch : (b : Body) (q : Asked) (n : ℕ) (k j : SketchWalked) → WalksSketch b q n k → WalksSketch b q n j → k ≡ j
one_sketch b q n k j x y = bodies-one q (files_of b.files) b.prices b.lines (n + 1 + length b.prices) k j x y

mutual
  pub one_walk : (t : Tree) (q : Asked) (ancestors : List Asked) (n : ℕ) (a b : Walked) → Walks t q ancestors n a → Walks t q ancestors n b → a ≡ b
  one_walk (rule r) q ancestors n a b x y = one_unless (ReasonSupports q r) why.Rule n a b x y
  one_walk (back k) q ancestors n a b x y = one_unless (CoversAt q ancestors k) why.Back n a b x y
  one_walk (expand kids) q ancestors n a b (inl x) (inl y) = x.1 ∙ sym y.1
  one_walk (expand kids) q ancestors n a b (inl x) (inr y) = absurd (y.0 x.0)
  one_walk (expand kids) q ancestors n a b (inr x) (inl y) = absurd (x.0 y.0)
  one_walk (expand kids) q ancestors n a b (inr x) (inr y) = one_each kids q (unmoves q) ancestors n (n + 1) a b x.1 y.1
  one_walk (sketch s) q ancestors n a b (k, x, e) (j, y, f) = e ∙ ap walked_by (one_sketch s q n k j x y) ∙ sym f

  one_each : (f : Forest) (q : Asked) (us : List Unmove) (ancestors : List Asked) (top n : ℕ) (a b : Walked) → WalksEach f q us ancestors top n a → WalksEach f q us ancestors top n b → a ≡ b
  one_each none q [] ancestors top n a b x y = x ∙ sym y
  one_each none q (u ∷ us) ancestors top n a b x y = x ∙ sym y
  one_each (more label t rest) q [] ancestors top n a b x y = x ∙ sym y
  one_each (more label t rest) q (u ∷ us) ancestors top n a b x y =
      one_by_label (unmove_order label u) u n a b (WalksKid t rest q u us ancestors top n a) (WalksKid t rest q u us ancestors top n b) (λ v w.
      let same : v.0 ≡ w.0 = one_walk t (predecessor q u) (q ∷ ancestors) n v.0 w.0 v.1 w.1 in
      one_onwards w.0 (WalksEach rest q us ancestors top) a b (λ m. one_each rest q us ancestors top m a b) (subst (λ (k : Walked). Onwards k (WalksEach rest q us ancestors top) a) same v.2) w.2) x y
