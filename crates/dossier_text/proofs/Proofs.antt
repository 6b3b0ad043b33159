-- The claim of a dossier holds.
use Rattle.std.proofs.Common.{ℕ, List, [], ◌∷◌, subst}
use Rattle.std.specs.List.{All}
use Rattle.std.proofs.lemmas.List.Elements.{All-cons, All-nil}
use Rattle.query_base.specs.Asked.{Asked}
use Rattle.query_base.specs.Reach.{Holds}
use Rattle.query_base.specs.declared.claims.Claim.{Claim}
use Rattle.cert_text.specs.Certificate.{Certificate}
use Rattle.cert_checker.specs.Proving.{ProvesClaim}
use Rattle.line_claims.specs.Due.{parts_due}
use Rattle.line_claims.specs.Holding.{HoldsLine}
use Rattle.line_claims.specs.declared.claims.LineClaim.{LineClaim}
use Rattle.dossier_text.specs.Proving.{AreProofs, IsDossier, ProvesPart}

-- the claim of a certificate that proves it holds
abbrev CertificatesProve : Type 0
CertificatesProve = (cert : Certificate) → ProvesClaim cert → Holds cert.claim cert.query

-- a claim of several steps holds where each part due does
abbrev PartsProve : Type 0
PartsProve = (claim : LineClaim) (q : Asked) → All (λ part. Holds part.0 part.1) (parts_due claim q) → HoldsLine claim q

part_holds : CertificatesProve → (bytes : List ℕ) (due : Claim × Asked) → ProvesPart bytes due → Holds due.0 due.1
part_holds prove bytes due p =
    subst (λ (c : Claim). Holds c due.1) p.claim_is (subst (λ (a : Asked). Holds p.cert.claim a) p.query_is (prove p.cert p.proves))

all_hold : CertificatesProve → (bytes : List ℕ) (dues : List (Claim × Asked)) → AreProofs bytes dues → All (λ part. Holds part.0 part.1) dues
all_hold prove bytes [] p = All-nil (λ (part : Claim × Asked). Holds part.0 part.1)
all_hold prove bytes (due ∷ others) p = All-cons (λ (part : Claim × Asked). Holds part.0 part.1) due others (part_holds prove p.0 due p.3) (all_hold prove p.1 others p.4)

pub dossier_holds : CertificatesProve → PartsProve → (bytes : List ℕ) (claim : LineClaim) (q : Asked) → IsDossier bytes claim q → HoldsLine claim q
dossier_holds prove parts bytes claim q d = parts claim q (all_hold prove d.rest (parts_due claim q) d.proofs)
