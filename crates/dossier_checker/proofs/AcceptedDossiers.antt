-- What is accepted is a dossier, and each dossier is accepted.
use Rattle.std.proofs.Common.{◌≡◌, ℕ, suc, inl, inr, List, [], ◌∷◌, ◌++◌, refl, ap, subst}
use Rattle.query_base.specs.Asked.{Asked}
use Rattle.query_base.specs.declared.claims.Claim.{Claim}
use Rattle.cert_text.specs.Lines.{cut}
use Rattle.cert_text.specs.Certificate.{Lines}
use Rattle.cert_checker.specs.Answers.{Answer, Answers, accepted, bad_text, fault}
use Rattle.cert_checker.specs.Walk.{Fault}
use Rattle.line_claims.specs.Due.{parts_due}
use Rattle.line_claims.specs.declared.claims.LineClaim.{LineClaim}
use Rattle.dossier_text.specs.Dossiers.{IsHead}
use Rattle.dossier_text.specs.Proving.{AreProofs, IsDossier}
use Rattle.dossier_checker.specs.DossierAnswers.{DossierAnswer, AnswersClaim, AnswersDossier, AnswersPart, AnswersParts, fault_in, line_accepted}

-- what is said of a part before a claim is accepted
accepted_part : (due : Claim × Asked) (p : ℕ) (said : Answer) (Next : DossierAnswer → Type 0) (claim : LineClaim) (q : Asked) → AnswersPart due p said Next (line_accepted claim q) → (said ≡ accepted due.0 due.1) × Next (line_accepted claim q)
accepted_part due p (bad_text n) Next claim q e = absurd cc
accepted_part due p (fault n f) Next claim q e = absurd cc
accepted_part due p (accepted c r) Next claim q (inl (same, next)) = (ap (λ (d : Claim × Asked). accepted d.0 d.1) same, next)
accepted_part due p (accepted c r) Next claim q (inr (other, e)) = absurd cc

-- the parts of a claim that is accepted
parts_prove : (claim line : LineClaim) (q r : Asked) (due : List (Claim × Asked)) (p : ℕ) (bytes : List ℕ) → AnswersParts claim q due p bytes (line_accepted line r) → AreProofs bytes due × (claim ≡ line) × (q ≡ r)
parts_prove claim line q r [] p bytes (inl (none, e)) = (none, cc, cc)
parts_prove claim line q r [] p bytes (inr (some, e)) = absurd cc
parts_prove claim line q r (d ∷ due) p bytes (inl (none, e)) = absurd cc
parts_prove claim line q r (d ∷ due) p bytes (inr (part, rest, said, begins, answers, on)) =
    let here = accepted_part d p said (AnswersParts claim q due (suc p) rest) line r on in
    let x = subst (Answers (cut part)) here.0 answers in
    let later = parts_prove claim line q r due (suc p) rest here.1 in
    ((part, rest, begins, record { cert = x.0; is_text = x.1; claim_is = x.2; query_is = x.3; proves = x.4 }, later.0), later.1, later.2)

claim_proves : (claim line : LineClaim) (q r : Asked) (head rest bytes : List ℕ) → bytes ≡ head ++ rest → IsHead head claim q → AnswersClaim claim q rest (line_accepted line r) → IsDossier bytes line r
claim_proves claim line q r head rest bytes whole is (inl (i, lacks, e)) = absurd cc
claim_proves claim line q r head rest bytes whole is (inr (listed, answers)) =
    let proofs = parts_prove claim line q r (parts_due claim q) 1 rest answers in
    subst (λ (s : Asked). IsDossier bytes line s) proofs.2 (subst (λ (c : LineClaim). IsDossier bytes c q) proofs.1
    (record { head = head; rest = rest; parts = whole; heading = is; listed = listed; proofs = proofs.0 }))

-- what is accepted is a dossier
pub accepted_proves : (bytes : List ℕ) (claim : LineClaim) (q : Asked) → AnswersDossier bytes (line_accepted claim q) → IsDossier bytes claim q
accepted_proves bytes claim q (inl (none, e)) = absurd cc
accepted_proves bytes claim q (inr (head, rest, c, r, whole, is, on)) = claim_proves c claim r q head rest bytes whole is on

proofs_accepted : (claim : LineClaim) (q : Asked) (due : List (Claim × Asked)) (p : ℕ) (bytes : List ℕ) → AreProofs bytes due → AnswersParts claim q due p bytes (line_accepted claim q)
proofs_accepted claim q [] p bytes none = inl (none, refl)
proofs_accepted claim q (d ∷ due) p bytes (part, rest, begins, proves, later) =
    inr (part, rest, accepted d.0 d.1, begins, (proves.cert, proves.is_text, proves.claim_is, proves.query_is, proves.proves), inl (refl, proofs_accepted claim q due (suc p) rest later))

-- each dossier is accepted
pub dossier_accepted : (bytes : List ℕ) (claim : LineClaim) (q : Asked) → IsDossier bytes claim q → AnswersDossier bytes (line_accepted claim q)
dossier_accepted bytes claim q d =
    inr (d.head, d.rest, claim, q, d.parts, d.heading, inr (d.listed, proofs_accepted claim q (parts_due claim q) 1 d.rest d.proofs))

-- what is said of a part before a fault is met
faulty_said : (due : Claim × Asked) (p : ℕ) (said : Answer) (Next : DossierAnswer → Type 0) (lines : Lines) (i n : ℕ) (f : Fault) → Answers lines said → (Next (fault_in i n f) → (l : Lines) × Answers l (fault n f)) → AnswersPart due p said Next (fault_in i n f) → (l : Lines) × Answers l (fault n f)
faulty_said due p (bad_text m) Next lines i n f answers later e = absurd cc
faulty_said due p (fault m g) Next lines i n f answers later e =
    let same : fault m g ≡ fault n f = cc in
    (lines, subst (Answers lines) same answers)
faulty_said due p (accepted c r) Next lines i n f answers later (inl (same, next)) = later next
faulty_said due p (accepted c r) Next lines i n f answers later (inr (other, e)) = absurd cc

-- the certificate with the fault of a part
faulty_part : (claim : LineClaim) (q : Asked) (due : List (Claim × Asked)) (p : ℕ) (bytes : List ℕ) (i n : ℕ) (f : Fault) → AnswersParts claim q due p bytes (fault_in i n f) → (lines : Lines) × Answers lines (fault n f)
faulty_part claim q [] p bytes i n f (inl (none, e)) = absurd cc
faulty_part claim q [] p bytes i n f (inr (some, e)) = absurd cc
faulty_part claim q (d ∷ due) p bytes i n f (inl (none, e)) = absurd cc
faulty_part claim q (d ∷ due) p bytes i n f (inr (part, rest, said, begins, answers, on)) =
    faulty_said d p said (AnswersParts claim q due (suc p) rest) (cut part) i n f answers (λ next. faulty_part claim q due (suc p) rest i n f next) on

faulty_claim : (claim : LineClaim) (q : Asked) (bytes : List ℕ) (i n : ℕ) (f : Fault) → AnswersClaim claim q bytes (fault_in i n f) → (lines : Lines) × Answers lines (fault n f)
faulty_claim claim q bytes i n f (inl (s, lacks, e)) = absurd cc
faulty_claim claim q bytes i n f (inr (listed, answers)) = faulty_part claim q (parts_due claim q) 1 bytes i n f answers

-- a fault that is answered is that of some certificate
pub faulty : (bytes : List ℕ) (i n : ℕ) (f : Fault) → AnswersDossier bytes (fault_in i n f) → (lines : Lines) × Answers lines (fault n f)
faulty bytes i n f (inl (none, e)) = absurd cc
faulty bytes i n f (inr (head, rest, claim, q, whole, is, on)) = faulty_claim claim q rest i n f on

-- the head of what is accepted
pub accepted_head : (bytes : List ℕ) (claim : LineClaim) (q : Asked) → AnswersDossier bytes (line_accepted claim q) → (h : List ℕ) × IsHead h claim q
accepted_head bytes claim q answers = let d = accepted_proves bytes claim q answers in (d.head, d.heading)
