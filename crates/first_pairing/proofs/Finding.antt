-- The first element that passes a test.
use Rattle.std.proofs.Common.{◌≡◌, Bool, true, false, ◌++◌, inl, inr, List, [], ◌∷◌, refl, sym, ap, ◌∙◌, subst}
use Rattle.std.proofs.lemmas.Bool.{cases_Bool, cond-true, cond-false}
use Rattle.std.proofs.lemmas.List.Folds.{find-append}
use Rattle.std.specs.Option.{option_or}
use Rattle.std.specs.Prelude.{Option, Some, None}
use Rattle.std.specs.List.{Contains, find}
use Rattle.general_lemmas.proofs.Lists.{contains-cases, contains-first, contains-later, contains-none}

-- what is found passes, and stands in the list
pub found-stands : {A : Type 0} (p : A → Bool) (xs : List A) (x : A) → find p xs ≡ Some x → Contains xs x × (p x ≡ true)
found-stands {A} p [] x h = absurd cc
found-stands {A} p (y ∷ xs) x h = elim (cases_Bool (p y)) [
  | inl first ↦
      let e : Some y ≡ Some x = sym (cond-true (p y) (Some y) (find p xs) first) ∙ h in
      let same : y ≡ x = cc in
      subst (λ (k : A). Contains (y ∷ xs) k × (p k ≡ true)) same (contains-first y xs, first)
  | inr other ↦
      let rest = found-stands p xs x (sym (cond-false (p y) (Some y) (find p xs) other) ∙ h) in
      (contains-later y xs x rest.0, rest.1)
]

-- where nothing is found, nothing passes
pub nothing-found : {A : Type 0} (p : A → Bool) (xs : List A) (x : A) → find p xs ≡ None → Contains xs x → p x ≡ false
nothing-found {A} p [] x h at = absurd (contains-none x at)
nothing-found {A} p (y ∷ xs) x h at = elim (cases_Bool (p y)) [
  | inl first ↦ let e : Some y ≡ None = sym (cond-true (p y) (Some y) (find p xs) first) ∙ h in absurd cc
  | inr other ↦ elim (contains-cases y xs x at) [
    | inl same ↦ subst (λ (k : A). p k ≡ false) same other
    | inr later ↦ nothing-found p xs x (sym (cond-false (p y) (Some y) (find p xs) other) ∙ h) later
  ]
]

-- where nothing is found in the first list, the first in both is that in the second
pub found-later : {A : Type 0} (p : A → Bool) (xs ys : List A) → find p xs ≡ None → find p (xs ++ ys) ≡ find p ys
found-later {A} p xs ys none = find-append p xs ys ∙ ap (λ (o : Option A). option_or o (find p ys)) none

pub found-first : {A : Type 0} (p : A → Bool) (xs ys : List A) (x : A) → find p xs ≡ Some x → find p (xs ++ ys) ≡ Some x
found-first {A} p xs ys x some = find-append p xs ys ∙ ap (λ (o : Option A). option_or o (find p ys)) some

-- where nothing passes, nothing is found
pub none-found : {A : Type 0} (p : A → Bool) (xs : List A) → ((x : A) → Contains xs x → p x ≡ true → ⊥) → find p xs ≡ None
none-found {A} p [] none = refl
none-found {A} p (x ∷ xs) none = elim (cases_Bool (p x)) [
  | inl first ↦ absurd (none x (contains-first x xs) first)
  | inr other ↦ cond-false (p x) (Some x) (find p xs) other ∙ none-found p xs (λ y at. none y (contains-later x xs y at))
]
