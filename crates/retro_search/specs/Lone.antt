-- Searches in which no query leans on an ancestor, and how many visits they take where refutations are kept.
use Rattle.std.specs.Prelude.{ℕ, zero, suc, ◌+◌, ◌≡◌, ◌<◌, ◌≤◌, ◌⊎◌, ◌↔◌, List, [], ◌∷◌, length}
use Rattle.std.specs.List.{Contains}
use Rattle.board_base.specs.declared.unmoves.Unmove.{Unmove}
use Rattle.query_base.specs.Asked.{Asked}
use Rattle.static_rules.specs.Supports.{IsClosed}
use Rattle.unmove_gen.specs.Listed.{unmoves}
use Rattle.unmove_gen.specs.Predecessor.{predecessor}
use Rattle.query_base.specs.Ancestors.{IsCovered}
use Rattle.retro_search.specs.Refutable.{IsRefutable}
use Rattle.retro_search.specs.Costs.{IsCost}
use Rattle.query_base.specs.Targets.{target}
use Rattle.query_base.specs.declared.claims.Claim.{Claim}

-- p stands in the tree of the query: it is the query; or, where no rule line supports the query and the depth isn't 0, it stands in
-- the tree of a predecessor at one less
abbrev pub StandsIn : Asked → Asked → ℕ → Type 0
StandsIn p q zero = p ≡ q
StandsIn p q (suc depth) =
    (p ≡ q) ⊎ ((IsClosed q → ⊥) × ((u : Unmove) × Contains (unmoves q) u × StandsIn p (predecessor q u) depth))

-- no query of the tree is covered by one that stands above it on its way from the root, below these ancestors
abbrev pub IsLone : Asked → ℕ → List Asked → Type 0
IsLone q zero ancestors = IsCovered q ancestors → ⊥
IsLone q (suc depth) ancestors =
    (IsCovered q ancestors → ⊥) × ((IsClosed q → ⊥) → (u : Unmove) → Contains (unmoves q) u → IsLone (predecessor q u) depth (q ∷ ancestors))

-- no query stands twice in the list
abbrev pub AreDifferent : List Asked → Type 0
AreDifferent [] = Unit {0}
AreDifferent (q ∷ qs) = (Contains qs q → ⊥) × AreDifferent qs

-- these are the different queries of the tree that no rule line supports
pub record AreExpanded (ps : List Asked) (q : Asked) (depth : ℕ) : Type 0 where
  pub different : AreDifferent ps
  pub each : (p : Asked) → Contains ps p ↔ (StandsIn p q depth × (IsClosed p → ⊥))

-- how many unmoves these queries have together
abbrev pub unmoves_in_all : List Asked → ℕ
unmoves_in_all [] = 0
unmoves_in_all (p ∷ ps) = length (unmoves p) + unmoves_in_all ps

-- 1, and how many unmoves the different queries of the tree have together that no rule line supports
abbrev pub IsMemoCost : Asked → ℕ → ℕ → Type 0
IsMemoCost q depth n = (ps : List Asked) × AreExpanded ps q depth × (n ≡ 1 + unmoves_in_all ps)

-- the query is refutable, no query of its tree leans on another above it, and its cost isn't large
pub record IsLoneSearch (q : Asked) (depth n : ℕ) : Type 0 where
  pub lone : IsLone q depth []
  pub refutable : IsRefutable q depth []
  pub cost : IsCost q depth [] n
  pub few : n ≤ 30000

-- The claim's proof is afforded by so many nodes: where its target is refutable, no query of its tree is covered by one above it, and its
-- cost isn't large, its memo cost is at most these.
abbrev pub IsAfforded : ℕ → ℕ → Claim → Asked → Type 0
IsAfforded depth nodes claim q = (n k : ℕ) → IsLoneSearch (target q claim) depth n → IsMemoCost (target q claim) depth k → k ≤ nodes

-- The cost of the claim's target is above the nodes. Where the target is refutable, no query of its tree is covered by one above it,
-- and its cost isn't large, its memo cost is above them too.
pub record IsDear (depth nodes : ℕ) (claim : Claim) (q : Asked) : Type 0 where
  pub cost : (n : ℕ) → IsCost (target q claim) depth [] n → nodes < n
  pub memo_cost : (n k : ℕ) → IsLoneSearch (target q claim) depth n → IsMemoCost (target q claim) depth k → nodes < k
