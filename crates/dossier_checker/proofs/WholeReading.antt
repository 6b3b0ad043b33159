-- A dossier that is read whole, part after part.
use Rattle.std.proofs.Common.{◌≡◌, ℕ, suc, ◌+◌, ◌≤◌, inl, inr, List, [], ◌∷◌, ◌++◌, length, refl, sym, ap, ◌∙◌, subst, arith, append-nil, append_assoc, length-append}
use Rattle.std.specs.Prelude.{Err, IsSomeAnd, MatchResult, None, Ok, Option, Result, Some}
use Rattle.std.specs.List.{All}
use Rattle.std.proofs.lemmas.List.Elements.{All-cons, All-nil}
use Rattle.query_base.specs.Asked.{Asked}
use Rattle.query_base.specs.declared.claims.Claim.{Claim}
use Rattle.cert_text.specs.Certificate.{Certificate, IsTextOf}
use Rattle.cert_text.specs.SeenCert.{cert_of}
use Rattle.cert_text.specs.declared.certificates.Cert.{Cert}
use Rattle.cert_checker.specs.Answers.{accepted}
use Rattle.cert_checker.specs.Proving.{ProvesClaim}
use Rattle.line_claims.specs.Due.{parts_due}
use Rattle.line_claims.specs.Listing.{HasParts}
use Rattle.line_claims.specs.declared.claims.LineClaim.{LineClaim}
use Rattle.dossier_text.specs.Dossiers.{BeginsWithHead, BeginsWithPart, HasNoPart, part_text}
use Rattle.dossier_text.specs.Proving.{AreProofs, IsDossier}
use Rattle.retro_ports.specs.declared.piecewise.TheConstants.{MOST_BYTES}
use Rattle.dossier_checker.specs.DossierAnswers.{AnswersDossier, AnswersParts, DossierAnswer, no_part}
use Rattle.dossier_checker.specs.DossierReading.{refused_as}
use Rattle.dossier_checker.specs.ReadingParts.{IsReading, PartReads, PartRefused}
use Rattle.dossier_checker.specs.WholeDossiers.{AreProofsOf, IsDossierOf, IsProofOfPart}
use Rattle.dossier_checker.specs.declared.refusals.DossierRefused.{DossierRefused}
use Rattle.dossier_checker.specs.declared.refusals.DossierRefused.TheVariants as refused
use Rattle.dossier_checker.proofs.Stepping.{unless_due}

-- a certificate that proves its claim is what is due, or another
pub due_read : (bytes : List ℕ) (due : Claim × Asked) (p : ℕ) (cert : Cert) (read : Result Cert DossierRefused) → IsTextOf bytes (cert_of cert) → ProvesClaim (cert_of cert) → MatchResult read (λ kept. (kept ≡ cert) × (((cert_of cert).claim, (cert_of cert).query) ≡ due)) (λ why. (why ≡ refused.Other p) × ((((cert_of cert).claim, (cert_of cert).query) ≡ due) → ⊥)) → PartReads bytes due p read
due_read bytes due p cert (Ok kept) text proves (same, is) = subst (λ (c : Cert). IsProofOfPart bytes due (cert_of c)) (sym same) (record {
  is_text = text;
  claim_is = ap (λ (d : Claim × Asked). d.0) is;
  query_is = ap (λ (d : Claim × Asked). d.1) is;
  proves = proves;
})
due_read bytes due p cert (Err why) text proves (other, none) =
    subst (λ (r : DossierRefused). IsSomeAnd (refused_as r) (PartRefused bytes due p)) (sym other)
    (accepted (cert_of cert).claim (cert_of cert).query, (cert_of cert, text, refl, refl, proves), inr (none, refl))

-- before the first part
pub begun : (claim : LineClaim) (q : Asked) (bytes : List ℕ) (certs : List Certificate) (left : List (Claim × Asked)) → left ≡ parts_due claim q → length left ≤ 112 → length bytes ≤ MOST_BYTES → certs ≡ [] → IsReading claim q bytes certs bytes left 1
begun claim q bytes certs left all few short none = record {
  few = omega (arith, few);
  short = short;
  answers = λ a later. subst (λ (l : List (Claim × Asked)). AnswersParts claim q l 1 bytes a) all later;
  proofs = λ others later.
      subst (λ (l : List Certificate). AreProofsOf bytes (parts_due claim q) (l ++ others)) (sym none) (subst (λ (l : List (Claim × Asked)). AreProofsOf bytes l others) all later);
}

-- one more part
pub with_proof : (claim : LineClaim) (q : Asked) (bytes : List ℕ) (old new : List Certificate) (rest part more : List ℕ) (left others : List (Claim × Asked)) (due : Claim × Asked) (number : ℕ) (cert : Certificate) → IsReading claim q bytes old rest left number → left ≡ due ∷ others → BeginsWithPart rest part more → IsProofOfPart part due cert → new ≡ old ++ cert ∷ [] → IsReading claim q bytes new more others (number + 1)
with_proof claim q bytes old new rest part more left others due number cert r next begins is longer =
    let one : number + 1 ≡ suc number = omega arith in
    record {
      few = omega (arith, r.few, ap length next);
      short = omega (arith, r.short, ap length begins.parts, length-append (part_text part) more);
      answers = λ a later.
          r.answers a (subst (λ (l : List (Claim × Asked)). AnswersParts claim q l number rest a) (sym next)
          (inr (part, more, accepted due.0 due.1, begins, (cert, is.is_text, is.claim_is, is.query_is, is.proves), inl (refl, subst (λ (n : ℕ). AnswersParts claim q others n more a) one later))));
      proofs = λ certs later.
          subst (λ (l : List Certificate). AreProofsOf bytes (parts_due claim q) l) (sym (append_assoc old (cert ∷ []) certs) ∙ ap (λ (l : List Certificate). l ++ certs) (sym longer))
          (r.proofs (cert ∷ certs) (subst (λ (l : List (Claim × Asked)). AreProofsOf rest l (cert ∷ certs)) (sym next) (part, more, begins, is, later)));
    }

-- where no part begins
pub none_begins : (claim : LineClaim) (q : Asked) (bytes : List ℕ) (certs : List Certificate) (rest : List ℕ) (left others : List (Claim × Asked)) (due : Claim × Asked) (number : ℕ) → IsReading claim q bytes certs rest left number → left ≡ due ∷ others → HasNoPart rest → AnswersParts claim q (parts_due claim q) 1 bytes (no_part number)
none_begins claim q bytes certs rest left others due number r next none =
    r.answers (no_part number) (subst (λ (l : List (Claim × Asked)). AnswersParts claim q l number rest (no_part number)) (sym next) (inl (none, refl)))

-- where a part isn't what is due
pub not_due : (claim : LineClaim) (q : Asked) (bytes : List ℕ) (certs : List Certificate) (rest part more : List ℕ) (left others : List (Claim × Asked)) (due : Claim × Asked) (number : ℕ) (o : Option DossierAnswer) → IsReading claim q bytes certs rest left number → left ≡ due ∷ others → BeginsWithPart rest part more → IsSomeAnd o (PartRefused part due number) → IsSomeAnd o (AnswersParts claim q (parts_due claim q) 1 bytes)
not_due claim q bytes certs rest part more left others due number None r next begins bad = bad
not_due claim q bytes certs rest part more left others due number (Some a) r next begins (said, answers, on) =
    r.answers a (subst (λ (l : List (Claim × Asked)). AnswersParts claim q l number rest a) (sym next)
    (inr (part, more, said, begins, answers, unless_due due number said (AnswersParts claim q others (suc number) more) a on)))

-- where bytes follow the last part
pub more_follows : (claim : LineClaim) (q : Asked) (bytes : List ℕ) (certs : List Certificate) (rest : List ℕ) (left : List (Claim × Asked)) (number : ℕ) → IsReading claim q bytes certs rest left number → left ≡ [] → (rest ≡ [] → ⊥) → AnswersParts claim q (parts_due claim q) 1 bytes (no_part number)
more_follows claim q bytes certs rest left number r none some =
    r.answers (no_part number) (subst (λ (l : List (Claim × Asked)). AnswersParts claim q l number rest (no_part number)) (sym none) (inr (some, refl)))

no_bytes : (bytes : List ℕ) → length bytes ≡ 0 → bytes ≡ []
no_bytes [] none = refl
no_bytes (b ∷ bytes) none = absurd (omega arith)

-- where nothing is left
pub all_read : (claim : LineClaim) (q : Asked) (bytes : List ℕ) (certs : List Certificate) (rest : List ℕ) (left : List (Claim × Asked)) (number : ℕ) → IsReading claim q bytes certs rest left number → left ≡ [] → length rest ≡ 0 → AreProofsOf bytes (parts_due claim q) certs
all_read claim q bytes certs rest left number r none empty =
    subst (λ (l : List Certificate). AreProofsOf bytes (parts_due claim q) l) (append-nil certs) (r.proofs [] (subst (λ (l : List (Claim × Asked)). AreProofsOf rest l []) (sym none) (no_bytes rest empty)))

-- what is said after the head
pub after_head : (bytes rest : List ℕ) (claim : LineClaim) (q : Asked) (o : Option DossierAnswer) → BeginsWithHead bytes claim q rest → HasParts claim q → IsSomeAnd o (AnswersParts claim q (parts_due claim q) 1 rest) → IsSomeAnd o (AnswersDossier bytes)
after_head bytes rest claim q None begins listed bad = bad
after_head bytes rest claim q (Some a) begins listed answers = inr (begins.head, rest, claim, q, begins.parts, begins.heading, inr (listed, answers))

-- the bytes are such parts
are_proofs : (bytes : List ℕ) (dues : List (Claim × Asked)) (certs : List Certificate) → AreProofsOf bytes dues certs → AreProofs bytes dues
are_proofs bytes [] [] none = none
are_proofs bytes [] (cert ∷ certs) none = absurd none
are_proofs bytes (due ∷ others) [] none = absurd none
are_proofs bytes (due ∷ others) (cert ∷ certs) (part, rest, begins, is, later) =
    (part, rest, begins, record { cert = cert; is_text = is.is_text; claim_is = is.claim_is; query_is = is.query_is; proves = is.proves }, are_proofs rest others certs later)

pub dossier_of : (bytes : List ℕ) (claim : LineClaim) (q : Asked) (certs : List Certificate) → IsDossierOf bytes claim q certs → IsDossier bytes claim q
dossier_of bytes claim q certs d =
    record { head = d.head; rest = d.rest; parts = d.parts; heading = d.heading; listed = d.listed; proofs = are_proofs d.rest (parts_due claim q) certs d.proofs }

-- each certificate proves its claim
pub all_prove : (bytes : List ℕ) (dues : List (Claim × Asked)) (certs : List Certificate) → AreProofsOf bytes dues certs → All ProvesClaim certs
all_prove bytes dues [] proofs = All-nil ProvesClaim
all_prove bytes [] (cert ∷ certs) none = absurd none
all_prove bytes (due ∷ others) (cert ∷ certs) (part, rest, begins, is, later) = All-cons ProvesClaim cert certs is.proves (all_prove rest others certs later)
