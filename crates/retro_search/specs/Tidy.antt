-- Inner: no public clause cites this file.
-- What is kept, by its queries.
use Rattle.std.specs.Prelude.{ℕ, ◌+◌, ◌≡◌, ◌≤◌, ◌<◌, true, List, [], ◌∷◌, ◌++◌, length}
use Rattle.std.specs.List.{All, Contains}
use Rattle.indexmap.specs.IndexMap.{keys, values}
use Rattle.query_base.specs.Asked.{Asked}
use Rattle.cert_text.specs.Seen.{tree_of}
use Rattle.retro_search.specs.declared.refutations.Refutation.{Refutation}
use Rattle.retro_search.specs.declared.memos.Kept.{Kept as AKept}
use Rattle.retro_search.specs.declared.memos.Memo.{Memo as AMemo}

-- the queries of which a tree is kept
abbrev pub kept_in : AMemo → List Asked
kept_in m = keys m.trees

-- each tree is kept by its own query
abbrev pub OwnQueries : AMemo → Type 0
OwnQueries m = All (λ e. e.1.query ≡ e.0) m.trees.entries

-- a tree is kept for the query, and none is that is higher than the depth
pub record IsKeptLow (m : AMemo) (q : Asked) (depth : ℕ) : Type 0 where
  pub on : m.on ≡ true
  pub own : OwnQueries m
  pub there : Contains (kept_in m) q
  pub low : All (λ k. k.query ≡ q → k.height ≤ depth) (values m.trees)

-- there is room for one more tree, and none is kept for the query
pub record HasRoomFor (m : AMemo) (q : Asked) (n : ℕ) : Type 0 where
  pub on : m.on ≡ true
  pub absent : Contains (kept_in m) q → ⊥
  pub few : length (kept_in m) < 65536
  pub short : m.lines + n ≤ 2000000

-- the tree of the refutation is kept besides
pub record Keeps (old : AMemo) (q : Asked) (r : Refutation) (new : AMemo) : Type 0 where
  pub kept : AKept
  pub entries : new.trees.entries ≡ old.trees.entries ++ (q, kept) ∷ []
  pub query_is : kept.query ≡ q
  pub tree : tree_of kept.node ≡ tree_of r.node
  pub lines : new.lines ≡ old.lines + r.lines

-- trees are kept, and none is so far
pub record IsFresh (m : AMemo) : Type 0 where
  pub on : m.on ≡ true
  pub empty : m.trees.entries ≡ []
  pub blank : m.lines ≡ 0
