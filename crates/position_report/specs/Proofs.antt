-- Proofs of what a report shows.
use Rattle.std.specs.Prelude.{ℕ, ◌≡◌, ◌+◌, ◌<◌, ◌≤◌, ◌⊎◌, Bool, true, false, cond, List, [], ◌∷◌, ◌++◌, codes, nat_lt, Option, Some, None, is_some}
use Rattle.std.specs.Fmt.{decimal}
use Rattle.board_base.specs.declared.men.Kind.{Kind}
use Rattle.board_base.specs.declared.unmoves.Unmove.{Unmove}
use Rattle.query_base.specs.Asked.{Asked}
use Rattle.query_base.specs.Targets.{target}
use Rattle.fen_text.specs.ClockLines.{clock_text}
use Rattle.fen_text.specs.OddsLines.{is_no_odds, odds_text}
use Rattle.fen_text.specs.Spelling.{spelling}
use Rattle.cert_text.specs.Certificate.{Certificate}
use Rattle.cert_text.specs.ClaimLines.{claim_text, promotes_well}
use Rattle.line_claims.specs.Lines.{line_claim_text}
use Rattle.line_claims.specs.declared.claims.LineClaim.{LineClaim}
use Rattle.line_claims.specs.declared.claims.LineClaim.TheVariants.{Line}
use Rattle.claim_search.specs.Answers.{IsProofOf}
use Rattle.claim_search.specs.Plain.{HasPlainSketch}
use Rattle.claim_search.specs.Unsettled.{WhereRefutable}
use Rattle.price_search.specs.FlatPrices.{FlatPricesSupport}
use Rattle.proof_prose.specs.Prose.{Explains, Retells}
use Rattle.verdict_prose.specs.Sentences.{verdict_text}
use Rattle.verdict_prose.specs.declared.verdicts.Verdict.TheVariants.{NotBoth}
use Rattle.position_report.specs.declared.shown.Pair.{Pair}
use Rattle.position_report.specs.declared.shown.Shown.{Shown}

-- a text with a line end
unfoldable pub ended : List ℕ → List ℕ
ended text = text ++ codes "\n"

-- the line of the odds, if there are any
abbrev pub odds_lines : List Bool → List ℕ
odds_lines o = cond (is_no_odds o) [] (ended (odds_text o))

-- the line of the clock, if one is demanded
abbrev pub clock_lines : Option ℕ → List ℕ
clock_lines None = []
clock_lines (Some n) = ended (clock_text n)

-- the lines of a position, as commands read them
unfoldable pub position_lines : Asked → List ℕ
position_lines q = odds_lines q.odds ++ clock_lines q.clock ++ ended (spelling q)

-- the depth and the nodes of a command
unfoldable pub limits_text : ℕ → ℕ → List ℕ
limits_text depth nodes = decimal depth ++ codes " " ++ decimal nodes

-- a call of the shell: a command, its limits, and what stands behind them. The input follows, up to a line `END`.
abbrev pub call_text : List ℕ → ℕ → ℕ → List ℕ → List ℕ
call_text command depth nodes after = command ++ limits_text depth nodes ++ after

-- how to check a proof: `settle` writes the certificate
unfoldable pub input_text : ℕ → ℕ → Shown → List ℕ
input_text depth nodes s =
    call_text (codes "To check it:\nretractor settle ") depth nodes (codes " << END | retractor check\n") ++ ended (claim_text s.claim) ++ position_lines s.query ++ codes "END\n"

-- the same, if the claim has a text
abbrev pub check_text : ℕ → ℕ → Shown → List ℕ
check_text depth nodes s = cond (promotes_well s.claim) (input_text depth nodes s) []

-- how a proof of last moves is to be had, behind these words: `dossier` writes it, and `explain` checks it
unfoldable pub line_input : List ℕ → ℕ → ℕ → Asked → LineClaim → List ℕ
line_input words depth nodes q claim =
    call_text words depth nodes (codes " << END | retractor explain\n") ++ ended (line_claim_text claim) ++ position_lines q ++ codes "END\n"

-- what stands before a call that proves what a last move captured
abbrev pub lone_words : Option Kind → List ℕ
lone_words None = codes "For a proof of the last move, and that it captured nothing:\nretractor dossier "
lone_words (Some k) = codes "For a proof of the last move, with what it captured:\nretractor dossier "

-- such a call, if there is one retraction of which to ask
abbrev pub lone_help : ℕ → ℕ → Asked → Option Unmove → List ℕ
lone_help depth nodes q None = []
lone_help depth nodes q (Some u) = line_input (lone_words u.captured) depth nodes q (Line (u ∷ []))

-- how a proof of several last moves is to be had, if they are proved; otherwise of the one, if there is such a retraction
abbrev pub line_help : ℕ → ℕ → Asked → Option (List Unmove) → Option Unmove → List ℕ
line_help depth nodes q None last = lone_help depth nodes q last
line_help depth nodes q (Some steps) last =
    line_input (codes "For a proof of the last moves:\nretractor dossier ") depth nodes q (Line steps)

-- what stands before a proof: its number, and an empty line before each but the first
abbrev pub title_text : ℕ → List ℕ
title_text number = cond (nat_lt 1 number) (codes "\n") [] ++ codes "Proof " ++ decimal number ++ codes "\n"

-- what a proof is for, if it shows that at least one of two castlings is lost
abbrev pub aim_text : Asked → Option Pair → List ℕ
aim_text q None = []
aim_text q (Some p) =
    verdict_text q (NotBoth p.first p.second) ++ codes "If both are held, no game leads to this diagram:\n"

-- the text of a certificate, behind the diagram and what is given if that is drawn
abbrev pub TellsCertificate : Bool → Certificate → List ℕ → Type 0
TellsCertificate true cert text = Explains cert text
TellsCertificate false cert text = Retells cert text

-- a proof with its number: what it is for, the text of a certificate that proves the claim, and how to check it
pub record TellsProof (depth nodes number : ℕ) (s : Shown) (text : List ℕ) : Type 0 where
  pub cert : Certificate
  pub proof : IsProofOf depth cert s.claim s.query
  pub own : List ℕ
  pub told : TellsCertificate (is_some s.pair) cert own
  pub text_is : text ≡ title_text number ++ aim_text s.query s.pair ++ own ++ check_text depth nodes s

-- A proof may be left out: rule lines refute the claim's target at no depth within the limits at a cost of at most the nodes, flat prices
-- don't support it, and no node of a sketch refutes it without exact files, prices and marks.
pub record IsUntold (depth nodes : ℕ) (s : Shown) : Type 0 where
  pub dear : WhereRefutable (target s.query s.claim) depth (λ n. nodes < n)
  pub unpriced : 1 ≤ nodes → FlatPricesSupport (target s.query s.claim) → ⊥
  pub unsketched : HasPlainSketch (target s.query s.claim) → ⊥

-- the proofs of these claims, in order and numbered from this number on, but for those that may be left out
abbrev pub TellsProofs : ℕ → ℕ → ℕ → List Shown → List ℕ → Type 0
TellsProofs depth nodes number [] text = text ≡ []
TellsProofs depth nodes number (s ∷ rest) text =
    ((own : List ℕ) × (others : List ℕ) × TellsProof depth nodes number s own × TellsProofs depth nodes (number + 1) rest others × (text ≡ own ++ others)) ⊎ (IsUntold depth nodes s × TellsProofs depth nodes number rest text)
