-- Where lines go bad, for any relation between lines and what they are the text of.
use Rattle.std.proofs.Common.{◌≡◌, ℕ, ◌-◌, ◌≤◌, ◌<◌, inl, inr, List, ◌++◌, take, drop, sym, ap, ◌∙◌, subst, arith, append_assoc, take-append-drop}
use Rattle.std.proofs.lemmas.List.{take-take}
use Rattle.std.proofs.lemmas.Bool.{cases_lt}
use Rattle.cert_text.specs.Texts.{Begins, IsBadAt}

-- the text of something goes bad nowhere
pub bad-no_text : {C : Type 0} (A : List (List ℕ) → C → Type 0) (lines : List (List ℕ)) (n : ℕ) (value : C) → IsBadAt A lines n → A lines value → ⊥
bad-no_text A lines n value bad text = elim bad.bad [
  | inl within ↦ within.1 (drop n lines, value, subst (λ (l : List (List ℕ)). A l value) (sym (take-append-drop n lines)) text)
  | inr ends ↦ ends.1 value text
]

-- fewer lines begin what more begin
begins_less : {C : Type 0} (A : List (List ℕ) → C → Type 0) (lines : List (List ℕ)) (m n : ℕ) → m ≤ n → Begins A (take n lines) → Begins A (take m lines)
begins_less A lines m n le begun =
    let rest : List (List ℕ) = drop m (take n lines) in
    let parts : take n lines ≡ take m lines ++ rest = sym (take-append-drop m (take n lines)) ∙ ap (λ (l : List (List ℕ)). l ++ rest) (take-take m n lines le) in
    (rest ++ begun.0, begun.1, subst (λ (l : List (List ℕ)). A l begun.1) (ap (λ (l : List (List ℕ)). l ++ begun.0) parts ∙ append_assoc (take m lines) rest begun.0) begun.2)

not_before : {C : Type 0} (A : List (List ℕ) → C → Type 0) (lines : List (List ℕ)) (m n : ℕ) → m < n → IsBadAt A lines m → IsBadAt A lines n → ⊥
not_before A lines m n before p q = elim p.bad [
  | inl within ↦ within.1 (begins_less A lines m (n - 1) (omega arith) q.front)
  | inr ends ↦ let end = ends.0 in elim q.bad [ inl later ↦ let inside = later.0 in omega arith | inr later ↦ let same = later.0 in omega arith ]
]

-- lines go bad at one line
pub line_one : {C : Type 0} (A : List (List ℕ) → C → Type 0) (lines : List (List ℕ)) (m n : ℕ) → IsBadAt A lines m → IsBadAt A lines n → m ≡ n
line_one A lines m n p q = elim (cases_lt m n) [
  | inl before ↦ absurd (not_before A lines m n before p q)
  | inr after ↦ elim (cases_lt n m) [ inl before ↦ absurd (not_before A lines n m before q p) | inr same ↦ omega arith ]
]
