-- The queries that stand above another where retractions are taken back, the parent first.
use Rattle.std.specs.Prelude.{ℕ, zero, suc, ◌<◌, List, Option, None, IsSomeAnd, slice_get}
use Rattle.std.specs.List.{Any}
use Rattle.query_base.specs.Asked.{Asked}
use Rattle.query_base.specs.Targets.{Covers}

-- the ancestor so many steps above, the parent being one step above
abbrev pub ancestor : List Asked → ℕ → Option Asked
ancestor ancestors zero = None
ancestor ancestors (suc k) = slice_get ancestors k

-- the ancestor so many steps above covers the query
abbrev pub CoversAt : Asked → List Asked → ℕ → Type 0
CoversAt q ancestors k = IsSomeAnd (ancestor ancestors k) (λ a. Covers a q)

-- some ancestor covers the query
abbrev pub IsCovered : Asked → List Asked → Type 0
IsCovered q ancestors = Any (λ a. Covers a q) ancestors

-- the nearest ancestor that covers the query stands k steps above
pub record GoesBack (q : Asked) (ancestors : List Asked) (k : ℕ) : Type 0 where
  pub covers : CoversAt q ancestors k
  pub nearest : (j : ℕ) → j < k → CoversAt q ancestors j → ⊥
