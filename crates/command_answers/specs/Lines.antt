-- What `line` answers.
use Rattle.std.specs.Prelude.{ℕ, ◌≡◌, List, ◌∷◌, ◌++◌, codes, drop}
use Rattle.std.specs.Fmt.{decimal}
use Rattle.query_base.specs.Asked.{Asked}
use Rattle.cert_text.specs.Lines.{ended}
use Rattle.line_claims.specs.Lines.{line_claim_text}
use Rattle.line_claims.specs.declared.claims.LineClaim.{LineClaim}
use Rattle.dossier_checker.specs.Proving.{IsDossier}
use Rattle.dossier_checker.specs.DossierAnswers.{AnswersDossier, DossierAnswer, bad_text_in, fault_in, line_accepted, no_head, no_part, other_part, unlisted_step}
use Rattle.command_answers.specs.Checks.{accepted_words_line, fault_words}
use Rattle.command_answers.specs.declared.statuses.Status.{Status}
use Rattle.command_answers.specs.declared.statuses.Status.TheVariants.{Done, Refused}

-- what the line of a claim of several steps says after `claim `
abbrev pub line_words : LineClaim → List ℕ
line_words claim = drop 6 (line_claim_text claim)

-- the line that tells that the claim is accepted
abbrev pub accepted_steps_line : LineClaim → Asked → List ℕ
accepted_steps_line claim q = accepted_words_line (line_words claim) q

-- what a refusal says of a step that isn't listed
abbrev pub step_line : ℕ → List ℕ
step_line i = ended (codes "refused step " ++ decimal i ++ codes " unlisted")

-- what a refusal says of a part
abbrev pub part_line : ℕ → List ℕ → List ℕ
part_line p what = ended (codes "refused part " ++ decimal p ++ 32 ∷ what)

-- what a refusal says of a line of a part's certificate
abbrev pub line_in : ℕ → List ℕ → List ℕ
line_in n what = codes "line " ++ decimal n ++ 32 ∷ what

-- the status and the text that tell an answer to a dossier
abbrev pub TellsDossier : DossierAnswer → Status → List ℕ → Type 0
TellsDossier no_head ending text = (ending ≡ Refused) × (text ≡ ended (codes "refused head"))
TellsDossier (unlisted_step i) ending text = (ending ≡ Refused) × (text ≡ step_line i)
TellsDossier (no_part p) ending text = (ending ≡ Refused) × (text ≡ part_line p (codes "text"))
TellsDossier (bad_text_in p n) ending text = (ending ≡ Refused) × (text ≡ part_line p (line_in n (codes "text")))
TellsDossier (fault_in p n f) ending text = (ending ≡ Refused) × (text ≡ part_line p (line_in n (fault_words f)))
TellsDossier (other_part p) ending text = (ending ≡ Refused) × (text ≡ part_line p (codes "other"))
TellsDossier (line_accepted claim q) ending text = (ending ≡ Done) × (text ≡ accepted_steps_line claim q)

-- the status and the text with which `line` answers these bytes
abbrev pub AnswersLine : List ℕ → Status → List ℕ → Type 0
AnswersLine input ending text = (answer : DossierAnswer) × AnswersDossier input answer × TellsDossier answer ending text

-- the bytes are a dossier that proves its claim
abbrev pub ProvesLine : List ℕ → Type 0
ProvesLine input = (claim : LineClaim) × (q : Asked) × IsDossier input claim q
