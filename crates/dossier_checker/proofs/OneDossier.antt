-- Bytes have one answer.
use Rattle.std.proofs.Common.{◌≡◌, ℕ, suc, ◌<◌, inl, inr, List, [], ◌∷◌, ◌++◌, length, sym, ap, ◌∙◌, subst, arith, append_assoc, length-append}
use Rattle.std.proofs.lemmas.Bool.{cases_lt}
use Rattle.board_base.specs.declared.unmoves.Unmove.{Unmove}
use Rattle.query_base.specs.Asked.{Asked}
use Rattle.query_base.specs.declared.claims.Claim.{Claim}
use Rattle.cert_text.specs.Lines.{cut}
use Rattle.cert_checker.specs.Answers.{Answer, Answers, accepted, bad_text, fault}
use Rattle.cert_checker.proofs.OneText.{one_answer}
use Rattle.line_claims.specs.Due.{parts_due}
use Rattle.line_claims.specs.Listing.{HasParts, IsFirstUnlisted, LacksStep}
use Rattle.line_claims.specs.declared.claims.LineClaim.{LineClaim}
use Rattle.line_claims.specs.declared.claims.LineClaim.TheVariants.{NotBoth, Line}
use Rattle.dossier_text.proofs.OneHead.{one_head}
use Rattle.dossier_text.proofs.PartTexts.{one_part}
use Rattle.dossier_checker.specs.DossierAnswers.{DossierAnswer, AnswersClaim, AnswersDossier, AnswersPart, AnswersParts, unlisted_step}
use Rattle.dossier_checker.proofs.Fronts.{front_of}

-- a list has one first step that isn't listed
earlier : (q : Asked) (steps : List Unmove) (i j : ℕ) (a : IsFirstUnlisted q steps i) (b : IsFirstUnlisted q steps j) → length a.before < length b.before → ⊥
earlier q steps i j a b longer =
    let same = sym b.whole ∙ a.whole ∙ sym (append_assoc a.before (a.step ∷ []) a.after) in
    let front = front_of (a.before ++ a.step ∷ []) a.after b.before (b.step ∷ b.after) same (omega (arith, length-append a.before (a.step ∷ []))) in
    a.unlisted (b.listed a.before front.0 a.step (front.1 ∙ append_assoc a.before (a.step ∷ []) front.0))

first_one : (q : Asked) (steps : List Unmove) (i j : ℕ) → IsFirstUnlisted q steps i → IsFirstUnlisted q steps j → i ≡ j
first_one q steps i j a b = elim (cases_lt (length a.before) (length b.before)) [
  | inl less ↦ absurd (earlier q steps i j a b less)
  | inr more ↦ elim (cases_lt (length b.before) (length a.before)) [
    | inl less ↦ absurd (earlier q steps j i b a less)
    | inr same ↦ omega (arith, a.place, b.place)
  ]
]

-- one step is the first that isn't listed
one_step : (claim : LineClaim) (q : Asked) (i j : ℕ) → LacksStep claim q i → LacksStep claim q j → i ≡ j
one_step (NotBoth x y) q i j a b = absurd a
one_step (Line steps) q i j a b = first_one q steps i j a b

-- or all are
pub no_step : (claim : LineClaim) (q : Asked) (i : ℕ) → HasParts claim q → LacksStep claim q i → ⊥
no_step (NotBoth x y) q i listed a = a
no_step (Line steps) q i listed a = a.unlisted (listed a.before a.after a.step a.whole)

one_said : (due : Claim × Asked) (p : ℕ) (said : Answer) (Next : DossierAnswer → Type 0) (a b : DossierAnswer) → (Next a → Next b → a ≡ b) → AnswersPart due p said Next a → AnswersPart due p said Next b → a ≡ b
one_said due p (bad_text n) Next a b one x y = x ∙ sym y
one_said due p (fault n f) Next a b one x y = x ∙ sym y
one_said due p (accepted claim q) Next a b one (inl x) (inl y) = one x.1 y.1
one_said due p (accepted claim q) Next a b one (inl x) (inr y) = absurd (y.0 x.0)
one_said due p (accepted claim q) Next a b one (inr x) (inl y) = absurd (x.0 y.0)
one_said due p (accepted claim q) Next a b one (inr x) (inr y) = x.1 ∙ sym y.1

one_parts : (claim : LineClaim) (q : Asked) (due : List (Claim × Asked)) (p : ℕ) (bytes : List ℕ) (a b : DossierAnswer) → AnswersParts claim q due p bytes a → AnswersParts claim q due p bytes b → a ≡ b
one_parts claim q [] p bytes a b (inl x) (inl y) = x.1 ∙ sym y.1
one_parts claim q [] p bytes a b (inl x) (inr y) = absurd (y.0 x.0)
one_parts claim q [] p bytes a b (inr x) (inl y) = absurd (x.0 y.0)
one_parts claim q [] p bytes a b (inr x) (inr y) = x.1 ∙ sym y.1
one_parts claim q (d ∷ due) p bytes a b (inl x) (inl y) = x.1 ∙ sym y.1
one_parts claim q (d ∷ due) p bytes a b (inl x) (inr (part, rest, said, begins, answers, on)) = absurd (x.0 part rest begins)
one_parts claim q (d ∷ due) p bytes a b (inr (part, rest, said, begins, answers, on)) (inl y) = absurd (y.0 part rest begins)
one_parts claim q (d ∷ due) p bytes a b (inr (part, rest, said, begins, answers, on)) (inr (part', rest', said', begins', answers', on')) =
    let same = one_part bytes part part' rest rest' begins begins' in
    let same-said : said ≡ said' = one_answer (cut part) said said' answers (subst (λ (l : List ℕ). Answers (cut l) said') (sym same.0) answers') in
    let on-rest : AnswersPart d p said' (AnswersParts claim q due (suc p) rest) b = subst (λ (l : List ℕ). AnswersPart d p said' (AnswersParts claim q due (suc p) l) b) (sym same.1) on' in
    let on-said : AnswersPart d p said (AnswersParts claim q due (suc p) rest) b = subst (λ (s : Answer). AnswersPart d p s (AnswersParts claim q due (suc p) rest) b) (sym same-said) on-rest in
    one_said d p said (AnswersParts claim q due (suc p) rest) a b (λ x y. one_parts claim q due (suc p) rest a b x y) on on-said

one_claim : (claim : LineClaim) (q : Asked) (bytes : List ℕ) (a b : DossierAnswer) → AnswersClaim claim q bytes a → AnswersClaim claim q bytes b → a ≡ b
one_claim claim q bytes a b (inl (i, lacks, e)) (inl (j, lacks', f)) = e ∙ ap unlisted_step (one_step claim q i j lacks lacks') ∙ sym f
one_claim claim q bytes a b (inl (i, lacks, e)) (inr y) = absurd (no_step claim q i y.0 lacks)
one_claim claim q bytes a b (inr x) (inl (j, lacks, f)) = absurd (no_step claim q j x.0 lacks)
one_claim claim q bytes a b (inr x) (inr y) = one_parts claim q (parts_due claim q) 1 bytes a b x.1 y.1

-- there is one answer to the bytes
pub one_dossier : (bytes : List ℕ) (a b : DossierAnswer) → AnswersDossier bytes a → AnswersDossier bytes b → a ≡ b
one_dossier bytes a b (inl x) (inl y) = x.1 ∙ sym y.1
one_dossier bytes a b (inl x) (inr (head, rest, claim, q, whole, is, on)) = absurd (x.0 head rest claim q whole is)
one_dossier bytes a b (inr (head, rest, claim, q, whole, is, on)) (inl y) = absurd (y.0 head rest claim q whole is)
one_dossier bytes a b (inr (head, rest, claim, q, whole, is, on)) (inr (head', rest', claim', q', whole', is', on')) =
    let same = one_head head head' rest rest' claim claim' q q' (sym whole ∙ whole') is is' in
    let on-rest : AnswersClaim claim' q' rest b = subst (λ (l : List ℕ). AnswersClaim claim' q' l b) (sym same.1) on' in
    let on-claim : AnswersClaim claim q' rest b = subst (λ (c : LineClaim). AnswersClaim c q' rest b) (sym same.2) on-rest in
    one_claim claim q rest a b on (subst (λ (r : Asked). AnswersClaim claim r rest b) (sym same.3) on-claim)
