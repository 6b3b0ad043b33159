-- Inner: no public clause cites this file.
-- Which queries games reach, and where a search ends.
use Rattle.std.specs.Prelude.{ℕ, ◌≡◌, ◌∷◌, ◌++◌, List, []}
use Rattle.std.specs.List.{Contains}
use Rattle.board_base.specs.declared.moves.Move.{Move}
use Rattle.query_base.specs.Asked.{Asked}
use Rattle.query_base.specs.Reach.{Contradicts, Reaches}
use Rattle.query_base.specs.Targets.{target}
use Rattle.query_base.specs.declared.claims.Claim.{Claim}
use Rattle.retro_search.specs.Refutable.{IsRefutable}
use Rattle.retro_search.specs.SearchSizes.{IsLargeSearch}
use Rattle.retro_search.specs.Unsettled.{StaysUnsettled}
use Rattle.claim_findings.specs.declared.ends.End.{End}
use Rattle.claim_findings.specs.declared.ends.End.TheVariants as end

-- one of these games reaches the query
abbrev pub IsReachedIn : List (List Move) → Asked → Type 0
IsReachedIn games q = (g : List Move) × Contains games g × Reaches g q

-- the game ends with the move, and what is before it reaches the query
abbrev pub IsEndedBy : List Move → Move → Asked → Type 0
IsEndedBy game m before = (g : List Move) × (game ≡ g ++ m ∷ []) × Reaches g before

-- Where a search ends that doesn't prove the claim: at a line of its target's that stays open; at a game that contradicts it; or nowhere,
-- which a claim that rule lines don't refute comes to only if the whole search is larger than the nodes.
abbrev pub IsSearchEnd : Asked → Claim → ℕ → ℕ → End → Type 0
IsSearchEnd q claim depth nodes (end.Line line) = StaysUnsettled line (target q claim) depth
IsSearchEnd q claim depth nodes (end.Game game) = Contradicts game claim q
IsSearchEnd q claim depth nodes end.Nowhere = (IsRefutable (target q claim) depth [] → ⊥) → IsLargeSearch (target q claim) depth nodes
