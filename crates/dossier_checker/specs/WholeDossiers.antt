-- A dossier that is held whole, with the certificates of its parts.
use Rattle.std.specs.Prelude.{ℕ, ◌≡◌, IsSomeAnd, List, [], ◌∷◌, ◌++◌, map, Result, Ok, Err}
use Rattle.query_base.specs.Asked.{Asked}
use Rattle.query_base.specs.declared.claims.Claim.{Claim}
use Rattle.cert_text.specs.Certificate.{Certificate, IsTextOf}
use Rattle.cert_text.specs.SeenCert.{cert_of}
use Rattle.cert_checker.specs.Proving.{ProvesClaim}
use Rattle.line_claims.specs.Due.{parts_due}
use Rattle.line_claims.specs.Listing.{HasParts}
use Rattle.line_claims.specs.declared.claims.LineClaim.{LineClaim}
use Rattle.dossier_text.specs.Dossiers.{BeginsWithPart, IsHead}
use Rattle.dossier_checker.specs.DossierAnswers.{AnswersDossier}
use Rattle.dossier_checker.specs.DossierReading.{refused_as}
use Rattle.dossier_checker.specs.declared.reading.ProvedLine.{ProvedLine}
use Rattle.dossier_checker.specs.declared.refusals.DossierRefused.{DossierRefused}

-- the bytes are the text of this certificate, which is of this claim about this query and proves it
pub record IsProofOfPart (bytes : List ℕ) (due : Claim × Asked) (cert : Certificate) : Type 0 where
  pub is_text : IsTextOf bytes cert
  pub claim_is : cert.claim ≡ due.0
  pub query_is : cert.query ≡ due.1
  pub proves : ProvesClaim cert

-- the bytes are the texts of these certificates as parts, one after another, which prove what is due, and nothing else
abbrev pub AreProofsOf : List ℕ → List (Claim × Asked) → List Certificate → Type 0
AreProofsOf bytes [] [] = bytes ≡ []
AreProofsOf bytes [] (cert ∷ certs) = ⊥
AreProofsOf bytes (due ∷ others) [] = ⊥
AreProofsOf bytes (due ∷ others) (cert ∷ certs) =
    (part : List ℕ) × (rest : List ℕ) × BeginsWithPart bytes part rest × IsProofOfPart part due cert × AreProofsOf rest others certs

-- the bytes are a dossier of this claim about this query: a head, and the texts of these certificates, which prove exactly the parts due
pub record IsDossierOf (bytes : List ℕ) (claim : LineClaim) (q : Asked) (certs : List Certificate) : Type 0 where
  pub head : List ℕ
  pub rest : List ℕ
  pub parts : bytes ≡ head ++ rest
  pub heading : IsHead head claim q
  pub listed : HasParts claim q
  pub proofs : AreProofsOf rest (parts_due claim q) certs

-- the bytes are this dossier, or this is the answer to them
abbrev pub ReadsDossier : List ℕ → Result ProvedLine DossierRefused → Type 0
ReadsDossier bytes (Ok line) = IsDossierOf bytes line.claim line.query (map cert_of line.proofs.items)
ReadsDossier bytes (Err r) = IsSomeAnd (refused_as r) (AnswersDossier bytes)
