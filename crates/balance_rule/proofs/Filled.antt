-- Arrays that are filled item by item.
use Rattle.std.proofs.Common.{◌≡◌, ℕ, zero, suc, ◌+◌, ◌<◌, inl, inr, List, [], ◌∷◌, length, get_or, set, refl, ap, sym, subst, ◌∙◌, arith}
use Rattle.std.proofs.lemmas.Bool.{cases_eq}
use Rattle.std.proofs.lemmas.List.{get_or-set_other, get_or-set_same}

-- one item more
pub each-more : {A : Type 0} (P : ℕ → A → Type 0) (items : List A) (k : ℕ) (item : A) → k < length items → ((f : ℕ) (none : A) → f < k → P f (get_or items f none)) → P k item → (f : ℕ) (none : A) → f < k + 1 → P f (get_or (set items k item) f none)
each-more {A} P items k item inside before here f none low = elim (cases_eq f k) [
  | inl same ↦
      let e : get_or (set items k item) f none ≡ item = ap (λ (n : ℕ). get_or (set items k item) n none) same ∙ get_or-set_same items k item none inside in
      subst (P f) (sym e) (subst (λ (n : ℕ). P n item) (sym same) here)
  | inr other ↦ subst (P f) (sym (get_or-set_other items k f item none other)) (before f none (omega arith))
]

-- the same items, and of one more
pub each-same : {A : Type 0} (P : ℕ → A → Type 0) (items : List A) (k : ℕ) → ((f : ℕ) (none : A) → f < k → P f (get_or items f none)) → ((none : A) → P k (get_or items k none)) → (f : ℕ) (none : A) → f < k + 1 → P f (get_or items f none)
each-same {A} P items k before here f none low = elim (cases_eq f k) [
  | inl same ↦ subst (λ (n : ℕ). P n (get_or items n none)) (sym same) (here none)
  | inr other ↦ before f none (omega arith)
]

-- within a list what stands past its end makes no difference
pub any-default : {A : Type 0} (items : List A) (k : ℕ) (a b : A) → k < length items → get_or items k a ≡ get_or items k b
any-default {A} [] k a b inside = absurd (omega arith)
any-default {A} (x ∷ items) zero a b inside = refl
any-default {A} (x ∷ items) (suc k) a b inside = any-default items k a b (omega arith)
