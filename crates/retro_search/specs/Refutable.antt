-- Queries that are refuted by taking moves back, to a depth.
use Rattle.std.specs.Prelude.{ℕ, zero, suc, ◌⊎◌, List, [], ◌∷◌}
use Rattle.std.specs.List.{Contains}
use Rattle.board_base.specs.declared.unmoves.Unmove.{Unmove}
use Rattle.query_base.specs.Asked.{Asked}
use Rattle.query_base.specs.Reach.{Reaches}
use Rattle.query_base.specs.Ancestors.{IsCovered}
use Rattle.static_rules.specs.Supports.{IsClosed}
use Rattle.unmove_gen.specs.Listed.{unmoves}
use Rattle.unmove_gen.specs.Predecessor.{predecessor}

-- nothing has to be taken back: some rule line supports the query, or an ancestor covers it
abbrev pub IsShut : Asked → List Asked → Type 0
IsShut q ancestors = IsClosed q ⊎ IsCovered q ancestors

-- The query is shut; or, where the depth isn't 0, the game of no moves doesn't reach it, and each of its predecessors is refutable
-- at one less, below it and its ancestors.
abbrev pub IsRefutable : Asked → ℕ → List Asked → Type 0
IsRefutable q zero ancestors = IsShut q ancestors
IsRefutable q (suc depth) ancestors =
    IsShut q ancestors ⊎ ((Reaches [] q → ⊥) × ((u : Unmove) → Contains (unmoves q) u → IsRefutable (predecessor q u) depth (q ∷ ancestors)))
