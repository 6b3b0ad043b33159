-- What a search for a refutation of a query comes to.
use Rattle.std.specs.Prelude.{ℕ, ◌≡◌, ◌≤◌, List, []}
use Rattle.board_base.specs.declared.moves.Move.{Move}
use Rattle.query_base.specs.Asked.{Asked}
use Rattle.query_base.specs.Reach.{Reaches}
use Rattle.cert_text.specs.Tree.{Tree}
use Rattle.sketch_findings.specs.Proving.{Proves}
use Rattle.retro_search.specs.Heights.{height}
use Rattle.retro_search.specs.declared.searchers.Outcome.{Outcome}
use Rattle.retro_search.specs.declared.searchers.Outcome.TheVariants as outcome

-- some tree of this height, which is no higher than the depth, proves the query, and no game reaches it
pub record HasProof (q : Asked) (h depth : ℕ) : Type 0 where
  pub tree : Tree
  pub proves : Proves tree q []
  pub high : height tree ≡ h
  pub low : h ≤ depth
  pub unreached : (game : List Move) → Reaches game q → ⊥

abbrev pub IfRefuted : Outcome → (ℕ → Type 0) → Type 0
IfRefuted (outcome.Refuted height) P = P height
IfRefuted outcome.Open P = Unit {0}
IfRefuted outcome.Spent P = Unit {0}

-- it is a refutation
abbrev pub IsRefuted : Outcome → Type 0
IsRefuted (outcome.Refuted height) = Unit {0}
IsRefuted outcome.Open = ⊥
IsRefuted outcome.Spent = ⊥
