-- When a dossier proves its claim.
use Rattle.std.specs.Prelude.{ℕ, ◌≡◌, List, [], ◌∷◌, ◌++◌}
use Rattle.query_base.specs.Asked.{Asked}
use Rattle.query_base.specs.declared.claims.Claim.{Claim}
use Rattle.cert_text.specs.Certificate.{Certificate, IsTextOf}
use Rattle.cert_checker.specs.Proving.{ProvesClaim}
use Rattle.line_claims.specs.Due.{parts_due}
use Rattle.line_claims.specs.Listing.{HasParts}
use Rattle.line_claims.specs.declared.claims.LineClaim.{LineClaim}
use Rattle.dossier_text.specs.Dossiers.{BeginsWithPart, IsHead}

-- the bytes are the text of a certificate of this claim about this query, which it proves
pub record ProvesPart (bytes : List ℕ) (due : Claim × Asked) : Type 0 where
  pub cert : Certificate
  pub is_text : IsTextOf bytes cert
  pub claim_is : cert.claim ≡ due.0
  pub query_is : cert.query ≡ due.1
  pub proves : ProvesClaim cert

-- the bytes are parts that prove what is due, one after another, and nothing else
abbrev pub AreProofs : List ℕ → List (Claim × Asked) → Type 0
AreProofs bytes [] = bytes ≡ []
AreProofs bytes (due ∷ others) = (part : List ℕ) × (rest : List ℕ) × BeginsWithPart bytes part rest × ProvesPart part due × AreProofs rest others

-- the bytes are a dossier of this claim about this query: a head, and parts that prove exactly the parts due
pub record IsDossier (bytes : List ℕ) (claim : LineClaim) (q : Asked) : Type 0 where
  pub head : List ℕ
  pub rest : List ℕ
  pub parts : bytes ≡ head ++ rest
  pub heading : IsHead head claim q
  pub listed : HasParts claim q
  pub proofs : AreProofs rest (parts_due claim q)
