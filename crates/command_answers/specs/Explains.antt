-- What `explain` answers.
use Rattle.std.specs.Prelude.{ℕ, cond, nat_eq, List}
use Rattle.std.specs.List.{starts_with}
use Rattle.query_base.specs.Asked.{Asked}
use Rattle.cert_text.specs.Certificate.{Certificate, IsTextOf}
use Rattle.cert_text.specs.Lines.{cut}
use Rattle.cert_checker.specs.Proving.{ProvesClaim}
use Rattle.dossier_checker.specs.WholeDossiers.{IsDossierOf}
use Rattle.dossier_prose.specs.Lengths.{ExplainsLength}
use Rattle.dossier_prose.specs.Parts.{ExplainsDossier}
use Rattle.dossier_text.specs.Dossiers.{format_line}
use Rattle.length_bound.specs.LengthAnswers.{IsShown}
use Rattle.length_bound.specs.LengthText.{AreLengthLines, length_head}
use Rattle.length_bound.specs.declared.texts.LengthText.{LengthText}
use Rattle.line_claims.specs.declared.claims.LineClaim.{LineClaim}
use Rattle.position_report.specs.Prose.{Explains}
use Rattle.command_answers.specs.AtLeasts.{AnswersAtLeast}
use Rattle.command_answers.specs.Checks.{AnswersCheck}
use Rattle.command_answers.specs.Lines.{AnswersLine}
use Rattle.command_answers.specs.declared.explains.ProofFormat.{ProofFormat}
use Rattle.command_answers.specs.declared.explains.ProofFormat.TheVariants.{Dossier, Length, Certificate as ACertificate}
use Rattle.command_answers.specs.declared.statuses.Status.{Status}
use Rattle.command_answers.specs.declared.statuses.Status.TheVariants as status

-- What the first line of the bytes says that they are: a dossier, the text of a length, or else a certificate.
unfoldable pub format_of : List ℕ → ProofFormat
format_of input = cond (starts_with nat_eq input format_line) Dossier (cond (starts_with nat_eq input length_head) Length ACertificate)

-- the bytes are the text of a certificate that proves its claim, and this is its proof in plain words
abbrev pub IsExplained : List ℕ → List ℕ → Type 0
IsExplained input text = (cert : Certificate) × IsTextOf input cert × ProvesClaim cert × Explains cert text

-- the bytes are a dossier of these certificates, which prove its claim, and these are their proofs in plain words
abbrev pub IsExplainedDossier : List ℕ → List ℕ → Type 0
IsExplainedDossier input text = (claim : LineClaim) × (q : Asked) × (certs : List Certificate) × IsDossierOf input claim q certs × ExplainsDossier claim q certs text

-- the bytes are the text of a length that its potentials show, and this is what shows it in plain words
abbrev pub IsExplainedLength : List ℕ → List ℕ → Type 0
IsExplainedLength input text = (said : LengthText) × AreLengthLines (cut input) said × IsShown said × ExplainsLength said text

-- what is answered to a certificate: its proof, or what `check` answers, which refuses it
abbrev pub AnswersAsCertificate : List ℕ → Status → List ℕ → Type 0
AnswersAsCertificate input status.Done text = IsExplained input text
AnswersAsCertificate input status.Refused text = AnswersCheck input status.Refused text
AnswersAsCertificate input _ text = ⊥

-- what is answered to a dossier: its proofs, or what `line` answers, which refuses it
abbrev pub AnswersAsDossier : List ℕ → Status → List ℕ → Type 0
AnswersAsDossier input status.Done text = IsExplainedDossier input text
AnswersAsDossier input status.Refused text = AnswersLine input status.Refused text
AnswersAsDossier input _ text = ⊥

-- what is answered to the text of a length: what shows it, or what `atleast` answers, which refuses it
abbrev pub AnswersAsLength : List ℕ → Status → List ℕ → Type 0
AnswersAsLength input status.Done text = IsExplainedLength input text
AnswersAsLength input status.Refused text = AnswersAtLeast input status.Refused text
AnswersAsLength input _ text = ⊥

-- what is answered to bytes of a format
abbrev pub AnswersAsFormat : ProofFormat → List ℕ → Status → List ℕ → Type 0
AnswersAsFormat ACertificate input ending text = AnswersAsCertificate input ending text
AnswersAsFormat Dossier input ending text = AnswersAsDossier input ending text
AnswersAsFormat Length input ending text = AnswersAsLength input ending text

-- The status and the text with which `explain` answers these bytes: the proof in plain words of what they are, as their first line says;
-- else what `check`, `line` or `atleast` answers, which refuses them.
abbrev pub AnswersExplain : List ℕ → Status → List ℕ → Type 0
AnswersExplain input ending text = AnswersAsFormat (format_of input) input ending text
