-- Inner: no public clause cites this file.
-- What a search of a query comes to.
use Rattle.std.specs.Prelude.{ℕ, ◌≡◌, ◌≤◌, ◌↔◌, ◌⊎◌, IsTrue, List, ◌∷◌, reverse}
use Rattle.std.specs.List.{Contains}
use Rattle.board_base.specs.declared.unmoves.Unmove.{Unmove}
use Rattle.query_base.specs.Asked.{Asked}
use Rattle.unmove_gen.specs.Listed.{unmoves}
use Rattle.unmove_gen.specs.Predecessor.{predecessor}
use Rattle.cert_text.specs.Tree.{Tree}
use Rattle.sketch_findings.specs.Proving.{Proves}
use Rattle.retro_search.specs.Refutable.{IsRefutable}
use Rattle.retro_search.specs.Lines.{IsFirstOpen, EndsAtArray}
use Rattle.retro_search.specs.Costs.{IsCost, SumsUpTo}
use Rattle.retro_search.specs.SearchSizes.{IsSearchSize, SumsAll}
use Rattle.retro_search.specs.Heights.{height}
use Rattle.retro_search.specs.Unsettled.{IsOpenLine}
use Rattle.retro_search.specs.declared.runs.Reasons.{Reasons}
use Rattle.retro_search.specs.declared.runs.Reasons.TheVariants.{RuleLines}
use Rattle.retro_search.specs.declared.unrefuted.OpenLine.{OpenLine}

-- the tree proves the query below these ancestors, and isn't higher than the depth
pub record Refutes (t : Tree) (q : Asked) (depth : ℕ) (ancestors : List Asked) : Type 0 where
  pub proves : Proves t q ancestors
  pub low : height t ≤ depth

-- the query isn't refutable, and this is its first open line, the last unmove first, marked where it ends at the array
pub record IsOpen (line : OpenLine) (q : Asked) (depth : ℕ) (ancestors : List Asked) : Type 0 where
  pub unrefuted : IsRefutable q depth ancestors → ⊥
  pub first : IsFirstOpen q depth ancestors (reverse line.back.items)
  pub marked : IsTrue line.at_array ↔ EndsAtArray q (reverse line.back.items)

-- the costs of the predecessors, up to and with the first that isn't refutable at this depth
abbrev pub IsCostBelow : Asked → ℕ → List Asked → ℕ → Type 0
IsCostBelow q depth ancestors n = SumsUpTo (λ u. IsCost (predecessor q u) depth (q ∷ ancestors)) (λ u. IsRefutable (predecessor q u) depth (q ∷ ancestors)) (unmoves q) n

-- the sizes of the searches of all predecessors at this depth
abbrev pub IsSizeBelow : Asked → ℕ → List Asked → ℕ → Type 0
IsSizeBelow q depth ancestors n = SumsAll (λ u. IsSearchSize (predecessor q u) depth (q ∷ ancestors)) (unmoves q) n

-- the query isn't refutable by rule lines, and this line of it is open, the last unmove first, marked where it ends at the array
pub record IsUnsettled (line : OpenLine) (q : Asked) (depth : ℕ) (ancestors : List Asked) : Type 0 where
  pub unrefuted : IsRefutable q depth ancestors → ⊥
  pub open_line : IsOpenLine q depth ancestors (reverse line.back.items)
  pub marked : IsTrue line.at_array ↔ EndsAtArray q (reverse line.back.items)

-- the visits to the query are within its cost: it is searched by rule lines alone, or they refute it
abbrev pub IsCounted : Reasons → Asked → ℕ → List Asked → Type 0
IsCounted reasons q depth ancestors = (reasons ≡ RuleLines) ⊎ IsRefutable q depth ancestors

-- the same of all predecessors of the query
abbrev pub AreCounted : Reasons → Asked → ℕ → List Asked → Type 0
AreCounted reasons q below ancestors = (reasons ≡ RuleLines) ⊎ ((u : Unmove) → Contains (unmoves q) u → IsRefutable (predecessor q u) below (q ∷ ancestors))

-- where all predecessors are refutable at this depth by rule lines, this holds of the sum of their costs
abbrev pub WhereEachRefutable : Asked → ℕ → List Asked → (ℕ → Type 0) → Type 0
WhereEachRefutable q below ancestors P =
    ((u : Unmove) → Contains (unmoves q) u → IsRefutable (predecessor q u) below (q ∷ ancestors)) → (n : ℕ) → IsCostBelow q below ancestors n → P n
