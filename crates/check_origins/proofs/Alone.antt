-- The only number that passes a test.
use Rattle.std.proofs.Common.{◌≡◌, ℕ, ◌+◌, ◌<◌, ◌==◌, Bool, true, false, inl, inr, ap, sym, ◌∙◌, arith, refl}
use Rattle.std.proofs.lemmas.Bool.{cases_eq, eq-eqb, ne_eqb}
use Rattle.std.specs.Prelude.{Option, Some, None, is_some}

-- of the numbers below i, the one found alone passes
abbrev pub IsAlone : Option ℕ → (ℕ → Bool) → ℕ → Type 0
IsAlone None p i = (s : ℕ) → s < i → p s ≡ false
IsAlone (Some k) p i = (k < i) × ((s : ℕ) → s < i → p s ≡ (s == k))

pub alone-more : (found : Option ℕ) (p : ℕ → Bool) (i : ℕ) → IsAlone found p i → p i ≡ false → IsAlone found p (i + 1)
alone-more None p i h fails = λ s below. elim (cases_eq s i) [
  | inl same ↦ ap p same ∙ fails
  | inr other ↦ h s (omega arith)
]
alone-more (Some k) p i h fails =
    let inside : k < i = h.0 in (
      omega arith,
      λ s below. elim (cases_eq s i) [
        | inl same ↦ ap p same ∙ fails ∙ sym (ne_eqb s k (λ e. omega arith))
        | inr other ↦ h.1 s (omega arith)
      ],
    )

pub alone-found : (p : ℕ → Bool) (i : ℕ) → IsAlone None p i → p i ≡ true → IsAlone (Some i) p (i + 1)
alone-found p i h passes = (
  omega arith,
  λ s below. elim (cases_eq s i) [
    | inl same ↦ ap p same ∙ passes ∙ sym (eq-eqb s i same)
    | inr other ↦ h s (omega arith) ∙ sym (ne_eqb s i other)
  ],
)

-- where none was found, none is there
pub none-left : (o : Option ℕ) → is_some o ≡ false → o ≡ None
none-left None h = refl
none-left (Some k) h = cc
