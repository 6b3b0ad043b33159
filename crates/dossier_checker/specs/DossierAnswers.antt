-- What the check of a dossier answers to bytes.
use Rattle.std.specs.Prelude.{ℕ, suc, ◌≡◌, ◌≢◌, ◌⊎◌, List, [], ◌∷◌, ◌++◌}
use Rattle.query_base.specs.Asked.{Asked}
use Rattle.query_base.specs.declared.claims.Claim.{Claim}
use Rattle.cert_text.specs.Lines.{cut}
use Rattle.cert_checker.specs.Answers.{Answer, Answers, accepted, bad_text, fault}
use Rattle.cert_checker.specs.Walk.{Fault}
use Rattle.line_claims.specs.Due.{parts_due}
use Rattle.line_claims.specs.Listing.{HasParts, LacksStep}
use Rattle.line_claims.specs.declared.claims.LineClaim.{LineClaim}
use Rattle.dossier_text.specs.Dossiers.{BeginsWithPart, HasNoHead, HasNoPart, IsHead}

-- No head begins the bytes; the step with this number isn't listed; no part begins where the part with this number must, or bytes
-- follow the last part; the certificate of this part goes bad at a line, or its walk meets a fault; it is of another claim or
-- query than those due; or the claim of several steps, about this query, is accepted. Steps, parts and lines are counted from 1.
pub data DossierAnswer : Type 0 where
  no_head : DossierAnswer
  unlisted_step : ℕ → DossierAnswer
  no_part : ℕ → DossierAnswer
  bad_text_in : ℕ → ℕ → DossierAnswer
  fault_in : ℕ → ℕ → Fault → DossierAnswer
  other_part : ℕ → DossierAnswer
  line_accepted : LineClaim → Asked → DossierAnswer

-- What is said of the part with this number, whose certificate has this answer: where that is what is due, the next part's turn comes.
abbrev pub AnswersPart : Claim × Asked → ℕ → Answer → (DossierAnswer → Type 0) → DossierAnswer → Type 0
AnswersPart due p (bad_text n) Next answer = answer ≡ bad_text_in p n
AnswersPart due p (fault n f) Next answer = answer ≡ fault_in p n f
AnswersPart due p (accepted claim q) Next answer = (((claim, q) ≡ due) × Next answer) ⊎ (((claim, q) ≢ due) × (answer ≡ other_part p))

-- What is said of the bytes that are to be the parts due, of which the first has this number: the first fault in their order, and
-- else that the claim of several steps is accepted.
abbrev pub AnswersParts : LineClaim → Asked → List (Claim × Asked) → ℕ → List ℕ → DossierAnswer → Type 0
AnswersParts claim q [] p bytes answer = ((bytes ≡ []) × (answer ≡ line_accepted claim q)) ⊎ ((bytes ≢ []) × (answer ≡ no_part p))
AnswersParts claim q (due ∷ others) p bytes answer =
    (HasNoPart bytes × (answer ≡ no_part p))
    ⊎ ((part : List ℕ) × (rest : List ℕ) × (said : Answer) × BeginsWithPart bytes part rest × Answers (cut part) said × AnswersPart due p said (AnswersParts claim q others (suc p) rest) answer)

-- what is said of the bytes that follow the head
abbrev pub AnswersClaim : LineClaim → Asked → List ℕ → DossierAnswer → Type 0
AnswersClaim claim q bytes answer =
    ((i : ℕ) × LacksStep claim q i × (answer ≡ unlisted_step i))
    ⊎ (HasParts claim q × AnswersParts claim q (parts_due claim q) 1 bytes answer)

-- this is the answer to the bytes
abbrev pub AnswersDossier : List ℕ → DossierAnswer → Type 0
AnswersDossier bytes answer =
    (HasNoHead bytes × (answer ≡ no_head))
    ⊎ ((head : List ℕ) × (rest : List ℕ) × (claim : LineClaim) × (q : Asked) × (bytes ≡ head ++ rest) × IsHead head claim q × AnswersClaim claim q rest answer)
