-- What a walk finds unlisted is an unmove of some query.
use Rattle.std.proofs.Common.{◌≡◌, ℕ, ◌+◌, inl, inr, List, [], ◌∷◌, refl, sym, subst, arith}
use Rattle.std.proofs.lemmas.List.Elements.{Contains-append_right}
use Rattle.std.specs.List.{Contains}
use Rattle.std.specs.declared.cmp.Ordering.{Ordering}
use Rattle.std.specs.declared.cmp.Ordering.TheVariants.{Less, Equal, Greater}
use Rattle.board_base.specs.Texts.{unmove_order}
use Rattle.board_base.specs.declared.unmoves.Unmove.{Unmove}
use Rattle.query_base.specs.Asked.{Asked}
use Rattle.sketch_checker.specs.TreeWalk.{Walked as SketchWalked}
use Rattle.sketch_checker.specs.TreeWalk as sketches
use Rattle.unmove_gen.specs.Listed.{unmoves}
use Rattle.unmove_gen.specs.Predecessor.{predecessor}
use Rattle.cert_text.specs.Tree.{Tree, Forest, rule, back, expand, sketch, none, more}
use Rattle.cert_checker.specs.Walk.{Walked, Walks, WalksEach, ByLabel, Onwards, fault_at, next_line, unlisted, walked_by}

-- the unmove is in the list of some query
abbrev pub IsOfSome : Unmove → Type 0
IsOfSome u = (q : Asked) × Contains (unmoves q) u

-- these unmoves are in the list of a query
abbrev AreOf : Asked → List Unmove → Type 0
AreOf q us = (v : Unmove) → Contains us v → Contains (unmoves q) v

later-of : (q : Asked) (v : Unmove) (us : List Unmove) → AreOf q (v ∷ us) → AreOf q us
later-of q v us all w there = all w (Contains-append_right (v ∷ []) us w there)

first-of : (q : Asked) (u v : Unmove) (us : List Unmove) (m n : ℕ) → AreOf q (v ∷ us) → fault_at m (unlisted u) ≡ fault_at n (unlisted v) → IsOfSome u
first-of q u v us m n all e = let same : u ≡ v = cc in (q, subst (λ (w : Unmove). Contains (unmoves q) w) (sym same) (all v (0, omega arith, refl)))

-- by what its label is to the first unmove that is left, and what the walk of a child comes to
unlisted-kid : (kid : Walked) (tree : Tree) (rest : Forest) (q : Asked) (v : Unmove) (us : List Unmove) (ancestors : List Asked) (top n m : ℕ) (u : Unmove) → (Walks tree (predecessor q v) (q ∷ ancestors) n (fault_at m (unlisted u)) → IsOfSome u) → ((k : ℕ) → WalksEach rest q us ancestors top k (fault_at m (unlisted u)) → IsOfSome u) → Walks tree (predecessor q v) (q ∷ ancestors) n kid → Onwards kid (WalksEach rest q us ancestors top) (fault_at m (unlisted u)) → IsOfSome u
unlisted-kid (fault_at k f) tree rest q v us ancestors top n m u here on walks e = here (subst (Walks tree (predecessor q v) (q ∷ ancestors) n) (sym e) walks)
unlisted-kid (next_line k) tree rest q v us ancestors top n m u here on walks goes_on = on k goes_on

unlisted-by : (o : Ordering) (tree : Tree) (rest : Forest) (q : Asked) (v : Unmove) (us : List Unmove) (ancestors : List Asked) (top n m : ℕ) (u : Unmove) → AreOf q (v ∷ us) → (Walks tree (predecessor q v) (q ∷ ancestors) n (fault_at m (unlisted u)) → IsOfSome u) → ((k : ℕ) → WalksEach rest q us ancestors top k (fault_at m (unlisted u)) → IsOfSome u) → ByLabel o v n (fault_at m (unlisted u)) ((kid : Walked) × Walks tree (predecessor q v) (q ∷ ancestors) n kid × Onwards kid (WalksEach rest q us ancestors top) (fault_at m (unlisted u))) → IsOfSome u
unlisted-by Less tree rest q v us ancestors top n m u all here on w = cc
unlisted-by Greater tree rest q v us ancestors top n m u all here on w = first-of q u v us m n all w
unlisted-by Equal tree rest q v us ancestors top n m u all here on w = unlisted-kid w.0 tree rest q v us ancestors top n m u here on w.1 w.2

-- a sketch has no unmoves
not-sketch : (k : SketchWalked) (m : ℕ) (u : Unmove) → fault_at m (unlisted u) ≡ walked_by k → ⊥
not-sketch (sketches.fault_at n w) m u e = cc
not-sketch (sketches.next_line n) m u e = cc

mutual
  pub unlisted-of : (t : Tree) (q : Asked) (ancestors : List Asked) (n m : ℕ) (u : Unmove) → Walks t q ancestors n (fault_at m (unlisted u)) → IsOfSome u
  unlisted-of (rule r) q ancestors n m u w = let e = w.2 in cc
  unlisted-of (back k) q ancestors n m u w = let e = w.2 in cc
  unlisted-of (sketch b) q ancestors n m u w = absurd (not-sketch w.0 m u w.2)
  unlisted-of (expand kids) q ancestors n m u w = elim w [
    | inl array ↦ let e = array.1 in cc
    | inr walked ↦ unlisted-each kids q (unmoves q) ancestors n (n + 1) m u (λ v there. there) walked.1
  ]

  unlisted-each : (f : Forest) (q : Asked) (us : List Unmove) (ancestors : List Asked) (top n m : ℕ) (u : Unmove) → AreOf q us → WalksEach f q us ancestors top n (fault_at m (unlisted u)) → IsOfSome u
  unlisted-each none q [] ancestors top n m u all w = cc
  unlisted-each none q (v ∷ us) ancestors top n m u all w = first-of q u v us m top all w
  unlisted-each (more label tree rest) q [] ancestors top n m u all w = cc
  unlisted-each (more label tree rest) q (v ∷ us) ancestors top n m u all w =
      unlisted-by (unmove_order label v) tree rest q v us ancestors top n m u all (λ h. unlisted-of tree (predecessor q v) (q ∷ ancestors) n m u h) (λ k h. unlisted-each rest q us ancestors top k m u (later-of q v us all) h) w
