-- Heads in front of bytes.
use Rattle.std.proofs.Common.{◌≡◌, ℕ, ◌<◌, inl, inr, List, [], ◌++◌, length, sym, ap, ◌∙◌, arith, append_assoc}
use Rattle.std.proofs.lemmas.Bool.{cases_lt}
use Rattle.std.proofs.lemmas.List.{append-nil}
use Rattle.query_base.specs.Asked.{Asked}
use Rattle.line_claims.specs.declared.claims.LineClaim.{LineClaim}
use Rattle.dossier_text.specs.Dossiers.{BeginsWithHead, HasNoHead}
use Rattle.dossier_text.proofs.HeadTexts.{head_short}
use Rattle.dossier_checker.specs.DossierAnswers.{DossierAnswer, AnswersClaim, AnswersDossier}
use Rattle.dossier_checker.proofs.Fronts.{front_of}

-- these are all bytes, or as many as a head has at most
pub no_head : (front bytes : List ℕ) → (length front < 512 → bytes ≡ []) → HasNoHead front → HasNoHead (front ++ bytes)
no_head front bytes all none head rest claim q whole is = elim (cases_lt (length front) 512) [
  | inl few ↦ none head rest claim q (sym (append-nil front) ∙ ap (λ (l : List ℕ). front ++ l) (sym (all few)) ∙ whole) is
  | inr many ↦
      let t = front_of head rest front bytes whole (omega (arith, head_short head claim q is)) in
      none head t.0 claim q t.1 is
]

-- what is said after a head
pub headed : (front rest bytes : List ℕ) (claim : LineClaim) (q : Asked) (a : DossierAnswer) → BeginsWithHead front claim q rest → AnswersClaim claim q (rest ++ bytes) a → AnswersDossier (front ++ bytes) a
headed front rest bytes claim q a begins answers =
    inr (begins.head, rest ++ bytes, claim, q, ap (λ (l : List ℕ). l ++ bytes) begins.parts ∙ append_assoc begins.head rest bytes, begins.heading, answers)
