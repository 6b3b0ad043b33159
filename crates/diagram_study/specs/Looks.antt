-- Inner: no public clause cites this file.
-- The unmoves of a query that were looked at, with what the searches before them came to.
use Rattle.std.specs.Prelude.{ℕ, ◌≡◌, ◌≤◌, ◌-◌, ◌⊎◌, max, true, false, IsTrue, List, [], ◌∷◌, ◌++◌, length, map, Option, Some, None}
use Rattle.std.specs.List.{All, Contains}
use Rattle.board_base.specs.Legal.{is_move}
use Rattle.board_base.specs.declared.moves.Move.{Move}
use Rattle.board_base.specs.declared.unmoves.Unmove.{Unmove}
use Rattle.query_base.specs.Asked.{Asked}
use Rattle.query_base.specs.declared.claims.Claim.{Claim}
use Rattle.query_base.specs.declared.claims.Claim.TheVariants.{Illegal, Last}
use Rattle.line_claims.specs.Lines.{has_text}
use Rattle.unmove_gen.specs.Listed.{unmoves}
use Rattle.unmove_gen.specs.Predecessor.{predecessor}
use Rattle.claim_findings.specs.Outcome.TheVariants.{Refuted}
use Rattle.claim_findings.specs.Findings.{IsOutcome, is_refuted}
use Rattle.diagram_study.specs.Retractions.{HasLeft}
use Rattle.diagram_study.specs.declared.retractions.Counted.{Counted}
use Rattle.diagram_study.specs.declared.retractions.Looked.{Looked}

-- this came of the search before the unmove
abbrev pub IsLooked : Asked → ℕ → ℕ → Looked → Type 0
IsLooked q depth nodes l = IsOutcome (predecessor q l.unmove) Illegal depth nodes l.outcome

-- what wasn't refuted is left
abbrev pub IsKeptIn : List Unmove → Looked → Type 0
IsKeptIn left l = is_refuted l.outcome ≡ false → Contains left l.unmove

-- these are the unmoves of the query but those that are still to be looked at, with what came of their searches
pub record AreLooked (q : Asked) (depth nodes : ℕ) (still left : List Unmove) (looked : List Looked) : Type 0 where
  pub split : map (λ l. l.unmove) looked ++ still ≡ unmoves q
  pub found : All (IsLooked q depth nodes) looked
  pub kept : All (IsKeptIn left) looked

-- the unmove has the move, if one is given, and doesn't count; or it was refuted at this height
abbrev pub IsHeight : Option Move → Looked → ℕ → Type 0
IsHeight but l h = ((is_move but l.unmove.mv ≡ true) × (h ≡ 0)) ⊎ ((is_move but l.unmove.mv ≡ false) × (l.outcome ≡ Refuted h))

-- each of these but those of the move was refuted, and this is the greatest of their heights
abbrev pub AreHeights : Option Move → List Looked → ℕ → Type 0
AreHeights but [] h = h ≡ 0
AreHeights but (l ∷ ls) h = (own : ℕ) × (others : ℕ) × IsHeight but l own × AreHeights but ls others × (h ≡ max own others)

-- that the move was the last; without one, that the position is illegal
abbrev pub claim_but : Option Move → Claim
claim_but None = Illegal
claim_but (Some m) = Last m

-- the unmoves of the query that are left, with all that were looked at
pub record IsSeen (q : Asked) (most nodes : ℕ) (seen : Counted) : Type 0 where
  pub left : HasLeft q most nodes seen.left
  pub all : seen.all ≡ length (unmoves q)
  pub few : length seen.left ≤ 143360
  pub texts : All (λ u. IsTrue (has_text u)) seen.left
  pub looked : AreLooked q (most - 1) nodes [] seen.left seen.looked.items
