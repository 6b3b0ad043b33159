-- What is proved below some ancestors is proved below more.
use Rattle.std.proofs.Common.{◌≡◌, ℕ, zero, suc, ◌≤◌, List, [], ◌∷◌, refl, sym, subst, take, arith}
use Rattle.std.specs.Prelude.{IsSomeAnd, None, Option, Some, slice_get}
use Rattle.board_base.specs.declared.unmoves.Unmove.{Unmove}
use Rattle.query_base.specs.Asked.{Asked}
use Rattle.query_base.specs.Targets.{Covers}
use Rattle.query_base.specs.Ancestors.{ancestor}
use Rattle.unmove_gen.specs.Listed.{unmoves}
use Rattle.unmove_gen.specs.Predecessor.{predecessor}
use Rattle.cert_text.specs.Tree.{Tree, Forest, rule, back, expand, sketch, none, more}
use Rattle.sketch_findings.specs.Proving.{Proves, ProvesEach}

-- each ancestor of the first stands in the second at the same place
pub record Extends (a b : List Asked) : Type 0 where
  pub there : (k : ℕ) (x : Asked) → slice_get a k ≡ Some x → slice_get b k ≡ Some x

extends-more : (q : Asked) (a b : List Asked) (k : ℕ) (x : Asked) → Extends a b → slice_get (q ∷ a) k ≡ Some x → slice_get (q ∷ b) k ≡ Some x
extends-more q a b zero x e h = h
extends-more q a b (suc k) x e h = e.there k x h

pub extends_more : (q : Asked) (a b : List Asked) → Extends a b → Extends (q ∷ a) (q ∷ b)
extends_more q a b e = record { there = λ k x h. extends-more q a b k x e h }

some-there : (o p : Option Asked) (P : Asked → Type 0) → ((x : Asked) → o ≡ Some x → p ≡ Some x) → IsSomeAnd o P → IsSomeAnd p P
some-there None p P e h = absurd h
some-there (Some x) p P e h = subst (λ (r : Option Asked). IsSomeAnd r P) (sym (e x refl)) h

ancestor-there : (k : ℕ) (a b : List Asked) (P : Asked → Type 0) → Extends a b → IsSomeAnd (ancestor a k) P → IsSomeAnd (ancestor b k) P
ancestor-there zero a b P e h = absurd h
ancestor-there (suc k) a b P e h = some-there (slice_get a k) (slice_get b k) P (e.there k) h

mutual
  pub proves_below : (t : Tree) (q : Asked) (a b : List Asked) → Extends a b → Proves t q a → Proves t q b
  proves_below (rule r) q a b e p = p
  proves_below (back k) q a b e p = ancestor-there k a b (λ c. Covers c q) e p
  proves_below (sketch s) q a b e p = p
  proves_below (expand kids) q a b e p = (p.0, each_below kids q (unmoves q) a b e p.1)

  pub each_below : (f : Forest) (q : Asked) (us : List Unmove) (a b : List Asked) → Extends a b → ProvesEach f q us a → ProvesEach f q us b
  each_below none q us a b e p = p
  each_below (more label tree rest) q us a b e (others, first, p, each) =
      (others, first, proves_below tree (predecessor q label) (q ∷ a) (q ∷ b) (extends_more q a b e) p, each_below rest q others a b e each)

take-there : (m n : ℕ) (xs : List Asked) (k : ℕ) (x : Asked) → m ≤ n → slice_get (take m xs) k ≡ Some x → slice_get (take n xs) k ≡ Some x
take-there zero n xs k x h e = absurd cc
take-there (suc m) zero xs k x h e = absurd (omega arith)
take-there (suc m) (suc n) [] k x h e = absurd cc
take-there (suc m) (suc n) (y ∷ ys) zero x h e = e
take-there (suc m) (suc n) (y ∷ ys) (suc k) x h e = take-there m n ys k x (omega arith) e

pub take_extends : (m n : ℕ) (xs : List Asked) → m ≤ n → Extends (take m xs) (take n xs)
take_extends m n xs h = record { there = λ k x e. take-there m n xs k x h e }

all-there : (m : ℕ) (xs : List Asked) (k : ℕ) (x : Asked) → slice_get (take m xs) k ≡ Some x → slice_get xs k ≡ Some x
all-there zero xs k x e = absurd cc
all-there (suc m) [] k x e = absurd cc
all-there (suc m) (y ∷ ys) zero x e = e
all-there (suc m) (y ∷ ys) (suc k) x e = all-there m ys k x e

pub whole_extends : (m : ℕ) (xs : List Asked) → Extends (take m xs) xs
whole_extends m xs = record { there = λ k x e. all-there m xs k x e }

near : (k : ℕ) (xs : List Asked) (P : Asked → Type 0) → IsSomeAnd (slice_get xs k) P → IsSomeAnd (slice_get (take (suc k) xs) k) P
near k [] P h = absurd h
near zero (y ∷ ys) P h = h
near (suc k) (y ∷ ys) P h = near k ys P h

-- an ancestor is among so many of the nearest as it stands steps above
pub ancestor_near : (k : ℕ) (xs : List Asked) (P : Asked → Type 0) → IsSomeAnd (ancestor xs k) P → IsSomeAnd (ancestor (take k xs) k) P
ancestor_near zero xs P h = absurd h
ancestor_near (suc k) xs P h = near k xs P h
