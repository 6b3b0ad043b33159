-- The last moves that follow one from another.
use Rattle.std.specs.Prelude.{ℕ, zero, suc, ◌≡◌, ◌<◌, ◌≤◌, IsTrue, List, [], ◌∷◌, length, Option, Some, None}
use Rattle.board_base.specs.declared.unmoves.Unmove.{Unmove}
use Rattle.query_base.specs.Asked.{Asked}
use Rattle.query_base.specs.declared.claims.Claim.TheVariants.{Last}
use Rattle.unmove_gen.specs.Predecessor.{predecessor}
use Rattle.line_claims.specs.declared.claims.LineClaim.TheVariants.{Line}
use Rattle.claim_findings.specs.Findings.{IsFound, is_proved}
use Rattle.claim_findings.specs.Joined.{IsLineFound}
use Rattle.diagram_study.specs.Retractions.{HasLeft}
use Rattle.claim_findings.specs.declared.findings.Finding.{Finding}
use Rattle.diagram_study.specs.declared.forced.StepsFound.{StepsFound}

-- what was found of the claim that the unmove's move was the last
pub record LastFound (q : Asked) (most nodes : ℕ) (u : Unmove) (finding : Finding) : Type 0 where
  pub left : HasLeft q most nodes (u ∷ [])
  pub found : IsFound q (Last u.mv) most nodes finding

-- the unmove alone is left, and its move is proved to have been the last
pub record IsForced (q : Asked) (most nodes : ℕ) (u : Unmove) : Type 0 where
  pub finding : Finding
  pub last : LastFound q most nodes u finding
  pub proved : IsTrue (is_proved finding)

-- one unmove alone isn't left; or it is, and its move isn't proved to have been the last
abbrev pub IsOpenPlace : Asked → ℕ → ℕ → Type 0
IsOpenPlace q most nodes = (left : List Unmove) × HasLeft q most nodes left × ((u : Unmove) → left ≡ u ∷ [] → (finding : Finding) × LastFound q most nodes u finding × (IsTrue (is_proved finding) → ⊥))

-- Each step is forced at what those before it leave, the first at the query. There are so many of them; or fewer, and what they leave
-- is an open place.
abbrev pub AreForced : ℕ → Asked → ℕ → ℕ → List Unmove → Type 0
AreForced zero q most nodes steps = steps ≡ []
AreForced (suc room) q most nodes [] = IsOpenPlace q most nodes
AreForced (suc room) q most nodes (u ∷ steps) = IsForced q most nodes u × AreForced room (predecessor q u) most nodes steps

-- this was found of the claim that each game ends by these steps
pub record IsStepsFound (q : Asked) (most nodes : ℕ) (steps : List Unmove) (f : StepsFound) : Type 0 where
  pub claim_is : f.claim ≡ Line steps
  pub found : IsLineFound q f.claim most nodes f.finding

-- what was found of the last moves: where two to sixteen are forced, of the claim that each game ends by them, else nothing
pub record AreStepsFound (q : Asked) (most nodes : ℕ) (found : Option StepsFound) : Type 0 where
  pub steps : List Unmove
  pub forced : AreForced 16 q most nodes steps
  pub several : 2 ≤ length steps → (f : StepsFound) × IsStepsFound q most nodes steps f × (found ≡ Some f)
  pub few : length steps < 2 → found ≡ None
