-- Inner: no public clause cites this file.
-- How far a check of a dossier's bytes that come in pieces has come, and what it still answers.
use Rattle.std.specs.Prelude.{ℕ, zero, suc, ◌≡◌, ◌<◌, ◌⊎◌, List, [], ◌∷◌, ◌++◌, length, Option, Some, None}
use Rattle.query_base.specs.Asked.{Asked}
use Rattle.query_base.specs.declared.claims.Claim.{Claim}
use Rattle.cert_checker.specs.Answers.{Answer}
use Rattle.cert_checker.specs.Remains.{Checking, Remains}
use Rattle.line_claims.specs.declared.claims.LineClaim.{LineClaim}
use Rattle.dossier_checker.specs.DossierAnswers.{DossierAnswer, AnswersPart, AnswersParts, no_part}

-- The claim and its query; the parts that aren't read to their end, of which the first has this number; the bytes so far of the line
-- that counts that part's bytes; how many of these are to come, or 0 if their line comes; and the check of those that came.
pub record Parting : Type 0 where
  pub claim : LineClaim
  pub query : Asked
  pub due : List (Claim × Asked)
  pub number : ℕ
  pub line : List ℕ
  pub left : ℕ
  pub checking : Checking

-- the parts that aren't read to their end: this one, if there is one, and those after it
abbrev pub with_first : Option (Claim × Asked) → List (Claim × Asked) → List (Claim × Asked)
with_first None others = []
with_first (Some part) others = part ∷ others

-- what is still answered in the midst of the first of these parts, where these bytes follow and nothing after them
abbrev pub InPart : List (Claim × Asked) → Parting → List ℕ → DossierAnswer → Type 0
InPart [] k bytes answer = answer ≡ no_part k.number
InPart (due ∷ others) k bytes answer =
    ((length bytes < k.left) × (answer ≡ no_part k.number))
    ⊎ ((part : List ℕ) × (rest : List ℕ) × (said : Answer) × (bytes ≡ part ++ rest) × (length part ≡ k.left) × Remains k.checking part said × AnswersPart due k.number said (AnswersParts k.claim k.query others (suc k.number) rest) answer)

-- with so many bytes of the part to come
abbrev pub PartsRemainAt : ℕ → Parting → List ℕ → DossierAnswer → Type 0
PartsRemainAt zero k bytes answer = AnswersParts k.claim k.query k.due k.number (k.line ++ bytes) answer
PartsRemainAt (suc left) k bytes answer = InPart k.due k bytes answer

-- what is still answered after the head, where these bytes follow and nothing after them
abbrev pub PartsRemain : Parting → List ℕ → DossierAnswer → Type 0
PartsRemain k bytes answer = PartsRemainAt k.left k bytes answer
