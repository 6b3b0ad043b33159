-- Inner: no public clause cites this file.
-- Searches of lone and refutable queries, whose visits are paid for by the unmoves of what they keep.
use Rattle.std.specs.Prelude.{ℕ, ◌+◌, ◌*◌, ◌≡◌, ◌≤◌, ◌<◌, ◌⊎◌, true, List, ◌∷◌, ◌++◌, length}
use Rattle.std.specs.List.{All, Contains}
use Rattle.indexmap.specs.IndexMap.{values}
use Rattle.board_base.specs.declared.unmoves.Unmove.{Unmove}
use Rattle.query_base.specs.Asked.{Asked}
use Rattle.static_rules.specs.Supports.{IsClosed}
use Rattle.unmove_gen.specs.Listed.{unmoves}
use Rattle.unmove_gen.specs.Predecessor.{predecessor}
use Rattle.cert_text.specs.Seen.{tree_of}
use Rattle.retro_search.specs.Refutable.{IsRefutable}
use Rattle.retro_search.specs.Costs.{IsCost}
use Rattle.retro_search.specs.Searched.{IsCostBelow}
use Rattle.retro_search.specs.Lone.{AreDifferent, IsLone, StandsIn, unmoves_in_all}
use Rattle.retro_search.specs.Eager.{IsEager}
use Rattle.retro_search.specs.Tidy.{OwnQueries, kept_in}
use Rattle.retro_search.specs.declared.refutations.Refutation.{Refutation}
use Rattle.retro_search.specs.declared.memos.Memo.{Memo as AMemo}
use Rattle.retro_search.specs.declared.runs.Run.{Run as ARun}

-- a rule line supports the query, or it is one of these
abbrev pub IsDone : List Asked → Asked → Type 0
IsDone kept q = IsClosed q ⊎ Contains kept q

-- the predecessors of each of these are done
abbrev pub AreWhole : List Asked → Type 0
AreWhole kept = (p : Asked) → Contains kept p → (u : Unmove) → Contains (unmoves p) u → IsDone kept (predecessor p u)

-- trees are kept, each by its own query, all are eager, and what stands in one of them and is expanded is kept too
pub record IsTidy (m : AMemo) : Type 0 where
  pub on : m.on ≡ true
  pub own : OwnQueries m
  pub eager : All (λ k. IsEager (tree_of k.node) k.query) (values m.trees)
  pub whole : AreWhole (kept_in m)

-- the ancestors and the queries of what is kept are all different, and among ps
pub record FitsIn (ps ancestors : List Asked) (run : ARun) : Type 0 where
  pub tidy : IsTidy run.memo
  pub different : AreDifferent (ancestors ++ kept_in run.memo)
  pub within : (p : Asked) → Contains (ancestors ++ kept_in run.memo) p → Contains ps p

-- the query is lone and refutable, of this cost, all that its tree expands is among ps, and there is room for what will be kept
pub record IsGood (ps : List Asked) (n : ℕ) (q : Asked) (depth : ℕ) (ancestors : List Asked) (run : ARun) : Type 0 where
  pub lone : IsLone q depth ancestors
  pub refutable : IsRefutable q depth ancestors
  pub cost : IsCost q depth ancestors n
  pub within : (p : Asked) → StandsIn p q depth → (IsClosed p → ⊥) → Contains ps p
  pub fits : FitsIn ps ancestors run
  pub few : n ≤ 30000
  pub trees : length (kept_in run.memo) + n ≤ 65536
  pub lines : run.memo.lines + depth * n ≤ 2000000

-- the tree is small and eager, the query is done, and the visits but one are as many as the unmoves of what was kept
pub record GoesWell (ps : List Asked) (n : ℕ) (q : Asked) (depth : ℕ) (ancestors : List Asked) (r : Refutation) (old new : ARun) : Type 0 where
  pub eager : IsEager (tree_of r.node) q
  pub alone : r.lean ≡ 0
  pub small : r.lines ≤ n
  pub fits : FitsIn ps ancestors new
  pub done : IsDone (kept_in new.memo) q
  pub stay : (p : Asked) → Contains (kept_in old.memo) p → Contains (kept_in new.memo) p
  pub visits : old.left + unmoves_in_all (kept_in old.memo) ≡ new.left + 1 + unmoves_in_all (kept_in new.memo)
  pub trees : length (kept_in new.memo) ≤ length (kept_in old.memo) + n
  pub lines : new.memo.lines ≤ old.memo.lines + depth * n

-- all visits that are left are paid for by the unmoves of ps, of which those of what is kept and of the ancestors are taken
abbrev pub IsPaid : List Asked → List Asked → ℕ → AMemo → Type 0
IsPaid ps ancestors left m = left + unmoves_in_all (kept_in m) + unmoves_in_all ancestors ≤ unmoves_in_all ps

-- the same of a query that is expanded, of its predecessors
pub record IsGoodBelow (ps : List Asked) (m : ℕ) (q : Asked) (below : ℕ) (ancestors : List Asked) (run : ARun) : Type 0 where
  pub lone : (u : Unmove) → Contains (unmoves q) u → IsLone (predecessor q u) below (q ∷ ancestors)
  pub refutable : (u : Unmove) → Contains (unmoves q) u → IsRefutable (predecessor q u) below (q ∷ ancestors)
  pub unclosed : IsClosed q → ⊥
  pub cost : IsCostBelow q below ancestors m
  pub within : (u : Unmove) → Contains (unmoves q) u → (p : Asked) → StandsIn p (predecessor q u) below → (IsClosed p → ⊥) → Contains ps p
  pub fits : FitsIn ps (q ∷ ancestors) run
  pub few : m < 30000
  pub trees : length (kept_in run.memo) + m < 65536
  pub lines : run.memo.lines + below * m + (m + 1) ≤ 2000000

pub record GoesWellBelow (ps : List Asked) (m : ℕ) (q : Asked) (below : ℕ) (ancestors : List Asked) (r : Refutation) (old new : ARun) : Type 0 where
  pub eager : IsEager (tree_of r.node) q
  pub alone : r.lean ≡ 0
  pub small : r.lines ≤ m + 1
  pub fits : FitsIn ps (q ∷ ancestors) new
  pub done : (u : Unmove) → Contains (unmoves q) u → IsDone (kept_in new.memo) (predecessor q u)
  pub stay : (p : Asked) → Contains (kept_in old.memo) p → Contains (kept_in new.memo) p
  pub visits : old.left + unmoves_in_all (kept_in old.memo) ≡ new.left + length (unmoves q) + unmoves_in_all (kept_in new.memo)
  pub trees : length (kept_in new.memo) ≤ length (kept_in old.memo) + m
  pub lines : new.memo.lines ≤ old.memo.lines + below * m
