-- The text of a study.
use Rattle.std.specs.Prelude.{ℕ, ◌≡◌, Bool, ◌&&◌, ◌||◌, is_some, IsTrue, List, [], ◌++◌, None}
use Rattle.board_base.specs.declared.castles.Castle.TheVariants.{WhiteShort, WhiteLong, BlackShort, BlackLong}
use Rattle.board_base.specs.declared.moves.Move.{Move}
use Rattle.board_base.specs.Rights.{holds, no_rights}
use Rattle.query_base.specs.Asked.{Asked}
use Rattle.claim_findings.specs.Findings.{is_proved}
use Rattle.claim_findings.specs.declared.findings.Finding.{Finding}
use Rattle.diagram_study.specs.Findings.{IsFoundOf, finding_of}
use Rattle.diagram_study.specs.Texts.{findings_text, plain_line}
use Rattle.diagram_study.specs.declared.findings.Findings.{Findings}

-- What is told of a position: the text of what was found of it, by which this is the finding of the claim that it is illegal. One list of
-- games decides all of it: each claim is countered if and only if one of them contradicts it, and the last moves that are possible are
-- exactly those that end one. So where one is possible, or a right is countered, that the position is illegal is countered too.
pub record TellsPosition (q : Asked) (most nodes : ℕ) (finding : Finding) (text : List ℕ) : Type 0 where
  pub by : List (List Move)
  pub findings : Findings
  pub found : IsFoundOf q most nodes by findings
  pub finding_is : finding ≡ finding_of findings
  pub text_is : text ≡ findings_text findings

-- the query demands a right, a last move or a clock
abbrev pub makes_demands : Asked → Bool
makes_demands q =
    holds q.held WhiteShort || holds q.held WhiteLong || holds q.held BlackShort || holds q.held BlackLong || is_some q.only || is_some q.clock

-- the query without its demands, at the same odds
abbrev pub without_demands : Asked → Asked
without_demands q = record q { held = no_rights; only = None; barred = None; clock = None }

-- what is told of the position without its demands
abbrev pub TellsPlain : Asked → ℕ → ℕ → List ℕ → Type 0
TellsPlain q most nodes text = (finding : Finding) × (own : List ℕ) × TellsPosition (without_demands q) most nodes finding own × (text ≡ plain_line ++ own)

-- what follows of the position without its demands, or nothing
abbrev pub TellsAgain : Asked → ℕ → ℕ → Finding → List ℕ → Type 0
TellsAgain q most nodes finding text =
    (IsTrue (is_proved finding && makes_demands q) → TellsPlain q most nodes text) × ((IsTrue (is_proved finding && makes_demands q) → ⊥) → text ≡ [])

-- The text tells what was found of the position; and if it makes demands and is proved to be illegal, what was found without them.
pub record IsStudy (q : Asked) (most nodes : ℕ) (text : List ℕ) : Type 0 where
  pub finding : Finding
  pub own : List ℕ
  pub plain : List ℕ
  pub told : TellsPosition q most nodes finding own
  pub again : TellsAgain q most nodes finding plain
  pub text_is : text ≡ own ++ plain
