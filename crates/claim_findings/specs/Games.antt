-- What the games say that a study found.
use Rattle.std.specs.Prelude.{◌≡◌, ◌↔◌, List, [], ◌∷◌, ◌++◌}
use Rattle.std.specs.List.{Contains}
use Rattle.board_base.specs.declared.moves.Move.{Move}
use Rattle.board_base.specs.declared.unmoves.Unmove.{Unmove}
use Rattle.query_base.specs.Asked.{Asked}
use Rattle.query_base.specs.Reach.{Contradicts, Reaches}
use Rattle.query_base.specs.declared.claims.Claim.{Claim}
use Rattle.unmove_gen.specs.Predecessor.{unmove_after}
use Rattle.claim_findings.specs.declared.findings.Finding.{Finding}
use Rattle.claim_findings.specs.declared.findings.Finding.TheVariants.{Countered}

-- one of these games contradicts the claim about the query
abbrev pub IsCounteredIn : List (List Move) → Claim → Asked → Type 0
IsCounteredIn games claim q = (g : List Move) × Contains games g × Contradicts g claim q

-- a claim is told as countered if and only if one of these games contradicts it
abbrev pub AgreesWith : List (List Move) → Claim → Asked → Finding → Type 0
AgreesWith games claim q finding = (finding ≡ Countered) ↔ IsCounteredIn games claim q

-- one of these games reaches the query and ends with the move of this unmove, and that move captured what the unmove says
abbrev pub IsEndIn : List (List Move) → Asked → Unmove → Type 0
IsEndIn games q u = (g : List Move) × Contains games (g ++ u.mv ∷ []) × Reaches (g ++ u.mv ∷ []) q × (unmove_after q.odds g u.mv ≡ u)
