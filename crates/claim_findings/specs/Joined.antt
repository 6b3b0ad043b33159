-- What is found of a claim of several steps.
use Rattle.std.specs.Prelude.{ℕ, ◌≡◌, max, IsTrue, List, [], ◌∷◌}
use Rattle.board_base.specs.Game.{unmoved}
use Rattle.board_base.specs.declared.moves.Move.{Move}
use Rattle.query_base.specs.Asked.{Asked}
use Rattle.query_base.specs.Reach.{Reaches}
use Rattle.query_base.specs.declared.claims.Claim.{Claim}
use Rattle.line_claims.specs.Due.{parts_due}
use Rattle.line_claims.specs.Holding.{EndsBy, HoldsLine}
use Rattle.line_claims.specs.declared.claims.LineClaim.{LineClaim}
use Rattle.line_claims.specs.declared.claims.LineClaim.TheVariants.{NotBoth, Line}
use Rattle.claim_findings.specs.Findings.{IsFound, is_proved}
use Rattle.claim_findings.specs.declared.findings.Finding.{Finding}
use Rattle.claim_findings.specs.declared.findings.Finding.TheVariants.{Proved, Countered, Open, Spent}

-- what is found of two claims together: the greater depth where both are proved, else the first that isn't
abbrev pub joined : Finding → Finding → Finding
joined (Proved depth) (Proved other) = Proved (max depth other)
joined (Proved depth) Countered = Countered
joined (Proved depth) Open = Open
joined (Proved depth) Spent = Spent
joined Countered other = Countered
joined Open other = Open
joined Spent other = Spent

-- what is found of claims together
abbrev pub together : List Finding → Finding
together [] = Proved 0
together (finding ∷ findings) = joined finding (together findings)

-- this was found of each part, in order
abbrev pub AreEachFound : ℕ → ℕ → List (Claim × Asked) → List Finding → Type 0
AreEachFound most nodes [] [] = Unit {0}
AreEachFound most nodes (part ∷ parts) (finding ∷ findings) = IsFound part.1 part.0 most nodes finding × AreEachFound most nodes parts findings
AreEachFound most nodes [] (finding ∷ findings) = ⊥
AreEachFound most nodes (part ∷ parts) [] = ⊥

-- some game contradicts the claim: it reaches the query, and leaves both castlings unmoved, or doesn't end by the steps
abbrev pub IsLineContradicted : LineClaim → Asked → Type 0
IsLineContradicted (NotBoth x y) q = (g : List Move) × Reaches g q × IsTrue (unmoved q.odds g x) × IsTrue (unmoved q.odds g y)
IsLineContradicted (Line steps) q = (g : List Move) × Reaches g q × (EndsBy q.odds g steps → ⊥)

-- What was found of the claim's parts due: it is proved where each of them is, at the greatest of their depths, and then it holds of
-- every game.
pub record IsLineFound (q : Asked) (claim : LineClaim) (most nodes : ℕ) (finding : Finding) : Type 0 where
  pub own : List Finding
  pub each : AreEachFound most nodes (parts_due claim q) own
  pub finding_is : finding ≡ together own
  pub holds : IsTrue (is_proved finding) → HoldsLine claim q
