-- Ancestors that cover a query, by how far above they stand.
use Rattle.std.proofs.Common.{ℕ, zero, suc, ◌+◌, ◌<◌, ◌⊎◌, inl, inr, List, [], ◌∷◌, refl, sym, subst, arith}
use Rattle.std.specs.Prelude.{IsSomeAnd, slice_get}
use Rattle.general_lemmas.proofs.Settling.{Settled}
use Rattle.query_base.specs.Asked.{Asked}
use Rattle.query_base.specs.Targets.{Covers}
use Rattle.query_base.specs.Ancestors.{CoversAt, GoesBack, IsCovered}
use Rattle.query_base.proofs.Settled.{covers_settled}

covered_at : (ancestors : List Asked) (k : ℕ) (q : Asked) → IsSomeAnd (slice_get ancestors k) (λ a. Covers a q) → IsCovered q ancestors
covered_at [] k q h = absurd h
covered_at (a ∷ rest) zero q h = (0, a, omega arith, refl, h)
covered_at (a ∷ rest) (suc k) q h = let c = covered_at rest k q h in (suc c.0, c.1, omega (arith, c.2), c.3, c.4)

-- an ancestor that is found so many steps above covers the query
pub covered : (ancestors : List Asked) (k : ℕ) (q : Asked) → CoversAt q ancestors k → IsCovered q ancestors
covered ancestors zero q h = absurd h
covered ancestors (suc k) q h = covered_at ancestors k q h

pub none-nearer : (q : Asked) (above : List Asked) (i : ℕ) → ((k : ℕ) → k < i → CoversAt q above (suc k) → ⊥) → (j : ℕ) → j < i + 1 → CoversAt q above j → ⊥
none-nearer q above i none zero below h = h
none-nearer q above i none (suc j) below h = none j (omega (arith, below)) h

-- what covers a query from above stands one step farther below one more
farther : (q a : Asked) (above : List Asked) (k : ℕ) → CoversAt q above k → CoversAt q (a ∷ above) (suc k)
farther q a above zero h = absurd h
farther q a above (suc k) h = h

none-farther : (q a : Asked) (above : List Asked) (k : ℕ) → (Covers a q → ⊥) → ((j : ℕ) → j < k → CoversAt q above j → ⊥) → (j : ℕ) → j < suc k → CoversAt q (a ∷ above) j → ⊥
none-farther q a above k away none zero below h = h
none-farther q a above k away none (suc zero) below h = away h
none-farther q a above k away none (suc (suc j)) below h = none (suc j) (omega (arith, below)) h

not-covered : (a : Asked) (rest : List Asked) (q : Asked) → (Covers a q → ⊥) → (IsCovered q rest → ⊥) → IsCovered q (a ∷ rest) → ⊥
not-covered a rest q away apart (zero, x, inside, e, c) = away (subst (λ (p : Asked). Covers p q) (sym e) c)
not-covered a rest q away apart (suc k, x, inside, e, c) = apart (k, x, omega arith, e, c)

-- some ancestor that covers the query is the nearest, or none covers it
pub nearest : (q : Asked) (above : List Asked) → ((k : ℕ) × GoesBack q above k) ⊎ (IsCovered q above → ⊥)
nearest q [] = inr (λ c. omega (arith, c.2))
nearest q (a ∷ above) = elim (covers_settled a q) [
  | inl covers ↦ inl (1, record { covers = covers; nearest = none-nearer q (a ∷ above) 0 (λ k below. absurd (omega (arith, below))) })
  | inr away ↦ elim (nearest q above) [
    | inl back ↦ inl (suc back.0, record { covers = farther q a above back.0 back.1.covers; nearest = none-farther q a above back.0 away back.1.nearest })
    | inr apart ↦ inr (not-covered a above q away apart)
  ]
]

pub covered_settled : (q : Asked) (ancestors : List Asked) → Settled (IsCovered q ancestors)
covered_settled q ancestors = elim (nearest q ancestors) [ inl back ↦ inl (covered ancestors back.0 q back.1.covers) | inr apart ↦ inr apart ]
