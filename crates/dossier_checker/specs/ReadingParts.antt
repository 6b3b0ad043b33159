-- Inner: no public clause cites this file.
-- What is read of the parts of a dossier.
use Rattle.std.specs.Prelude.{ℕ, ◌+◌, ◌≤◌, ◌++◌, IsSomeAnd, List, length, map, Result, Ok, Err, Vec}
use Rattle.query_base.specs.Asked.{Asked}
use Rattle.query_base.specs.declared.claims.Claim.{Claim}
use Rattle.cert_text.specs.Lines.{cut}
use Rattle.cert_text.specs.SeenCert.{cert_of}
use Rattle.cert_text.specs.Certificate.{Certificate}
use Rattle.cert_text.specs.declared.certificates.Cert.{Cert}
use Rattle.cert_checker.specs.Answers.{Answer, Answers}
use Rattle.line_claims.specs.Due.{parts_due}
use Rattle.line_claims.specs.declared.claims.LineClaim.{LineClaim}
use Rattle.dossier_checker.specs.DossierAnswers.{DossierAnswer, AnswersPart, AnswersParts}
use Rattle.dossier_checker.specs.DossierReading.{refused_as}
use Rattle.dossier_checker.specs.WholeDossiers.{AreProofsOf, IsProofOfPart}
use Rattle.std.specs.declared.alloc.Global.{Global}
use Rattle.retro_ports.specs.declared.piecewise.TheConstants.{MOST_BYTES}
use Rattle.dossier_checker.specs.declared.refusals.DossierRefused.{DossierRefused}

-- this is the answer to the bytes of this part, whose certificate isn't what is due
abbrev pub PartRefused : List ℕ → Claim × Asked → ℕ → DossierAnswer → Type 0
PartRefused bytes due p answer = (said : Answer) × Answers (cut bytes) said × AnswersPart due p said (λ b. ⊥) answer

-- the bytes of this part are the text of this certificate, which proves what is due; or they are refused
abbrev pub PartReads : List ℕ → Claim × Asked → ℕ → Result Cert DossierRefused → Type 0
PartReads bytes due p (Ok cert) = IsProofOfPart bytes due (cert_of cert)
PartReads bytes due p (Err r) = IsSomeAnd (refused_as r) (PartRefused bytes due p)

-- the bytes are parts that prove what is due; or this is the answer to them
abbrev pub PartsRead : LineClaim → Asked → List ℕ → Result (Vec Cert Global) DossierRefused → Type 0
PartsRead claim q bytes (Ok proofs) = AreProofsOf bytes (parts_due claim q) (map cert_of proofs.items)
PartsRead claim q bytes (Err r) = IsSomeAnd (refused_as r) (AnswersParts claim q (parts_due claim q) 1 bytes)

-- These certificates were read of the bytes. This is left of the bytes and of what is due, of which the first has this number.
pub record IsReading (claim : LineClaim) (q : Asked) (bytes : List ℕ) (certs : List Certificate) (rest : List ℕ) (left : List (Claim × Asked)) (number : ℕ) : Type 0 where
  pub few : number + length left ≤ 113
  pub short : length rest ≤ MOST_BYTES
  pub answers : (a : DossierAnswer) → AnswersParts claim q left number rest a → AnswersParts claim q (parts_due claim q) 1 bytes a
  pub proofs : (others : List Certificate) → AreProofsOf rest left others → AreProofsOf bytes (parts_due claim q) (certs ++ others)
