-- Members of a list by its first element, and of lists that are filtered, mapped and joined; lists by their last.
use Rattle.std.proofs.Common.{◌≡◌, zero, suc, ◌⊎◌, inl, inr, List, [], ◌∷◌, ◌++◌, map, Bool, true, cond, refl, sym, ap, ◌∙◌, subst, arith}
use Rattle.std.proofs.lemmas.Bool.{cases_Bool, cond-true, cond-false}
use Rattle.std.proofs.lemmas.List.Elements.{Contains-append_left, Contains-append_right, Contains-append_cases}
use Rattle.std.specs.List.{Contains, filter, flat_map}

pub contains-first : {A : Type 0} (x : A) (xs : List A) → Contains (x ∷ xs) x
contains-first {A} x xs = (0, omega arith, refl)

pub contains-later : {A : Type 0} (y : A) (xs : List A) (x : A) → Contains xs x → Contains (y ∷ xs) x
contains-later {A} y xs x (k, inside, e) = (suc k, omega arith, e)

pub contains-cases : {A : Type 0} (y : A) (ys : List A) (x : A) → Contains (y ∷ ys) x → (y ≡ x) ⊎ Contains ys x
contains-cases {A} y ys x (zero, inside, e) = inl e
contains-cases {A} y ys x (suc k, inside, e) = inr (k, omega arith, e)

pub contains-none : {A : Type 0} (x : A) → Contains [] x → ⊥
contains-none {A} x (k, inside, e) = omega arith

-- what a filter keeps
pub contains-filter : {A : Type 0} (p : A → Bool) (xs : List A) (x : A) → Contains xs x → p x ≡ true → Contains (filter p xs) x
contains-filter {A} p [] x h pass = h
contains-filter {A} p (y ∷ ys) x h pass = elim (contains-cases y ys x h) [
  | inl same ↦
      let taken : cond (p y) (y ∷ filter p ys) (filter p ys) ≡ y ∷ filter p ys = cond-true _ _ _ (ap p same ∙ pass) in
      subst (λ (l : List A). Contains l x) (sym taken) (0, omega arith, same)
  | inr there ↦
      let rest : Contains (filter p ys) x = contains-filter p ys x there pass in
      elim (cases_Bool (p y)) [
        | inl e ↦ subst (λ (l : List A). Contains l x) (sym (cond-true (p y) (y ∷ filter p ys) (filter p ys) e)) (Contains-append_right (y ∷ []) (filter p ys) x rest)
        | inr e ↦ subst (λ (l : List A). Contains l x) (sym (cond-false (p y) (y ∷ filter p ys) (filter p ys) e)) rest
      ]
]

pub filter-contains : {A : Type 0} (p : A → Bool) (xs : List A) (x : A) → Contains (filter p xs) x → Contains xs x × (p x ≡ true)
filter-contains {A} p [] x h = absurd (contains-none x h)
filter-contains {A} p (y ∷ xs) x h = elim (cases_Bool (p y)) [
  | inl e ↦
      elim (contains-cases y (filter p xs) x (subst (λ (l : List A). Contains l x) (cond-true (p y) (y ∷ filter p xs) (filter p xs) e) h)) [
        | inl same ↦ ((0, omega arith, same), sym (ap p same) ∙ e)
        | inr later ↦ let rest = filter-contains p xs x later in (contains-later y xs x rest.0, rest.1)
      ]
  | inr e ↦
      let rest = filter-contains p xs x (subst (λ (l : List A). Contains l x) (cond-false (p y) (y ∷ filter p xs) (filter p xs) e) h) in
      (contains-later y xs x rest.0, rest.1)
]

-- what stands in a list of values, and in lists of values joined
pub contains-map : {A B : Type 0} (f : A → B) (xs : List A) (x : A) → Contains xs x → Contains (map f xs) (f x)
contains-map {A} {B} f [] x h = absurd (contains-none x h)
contains-map {A} {B} f (y ∷ xs) x h = elim (contains-cases y xs x h) [
  | inl same ↦ subst (λ (z : A). Contains (map f (y ∷ xs)) (f z)) same (contains-first (f y) (map f xs))
  | inr later ↦ contains-later (f y) (map f xs) (f x) (contains-map f xs x later)
]

pub map-contains : {A B : Type 0} (f : A → B) (xs : List A) (y : B) → Contains (map f xs) y → (x : A) × Contains xs x × (f x ≡ y)
map-contains {A} {B} f [] y h = absurd (contains-none y h)
map-contains {A} {B} f (x ∷ xs) y h = elim (contains-cases (f x) (map f xs) y h) [
  | inl same ↦ (x, contains-first x xs, same)
  | inr later ↦ let rest = map-contains f xs y later in (rest.0, contains-later x xs rest.0 rest.1, rest.2)
]

pub contains-flat_map : {A B : Type 0} (f : A → List B) (xs : List A) (x : A) (y : B) → Contains xs x → Contains (f x) y → Contains (flat_map f xs) y
contains-flat_map {A} {B} f [] x y h at = absurd (contains-none x h)
contains-flat_map {A} {B} f (z ∷ xs) x y h at = elim (contains-cases z xs x h) [
  | inl same ↦ Contains-append_left (f z) (flat_map f xs) y (subst (λ (z : A). Contains (f z) y) (sym same) at)
  | inr later ↦ Contains-append_right (f z) (flat_map f xs) y (contains-flat_map f xs x y later at)
]

pub flat_map-contains : {A B : Type 0} (f : A → List B) (xs : List A) (y : B) → Contains (flat_map f xs) y → (x : A) × Contains xs x × Contains (f x) y
flat_map-contains {A} {B} f [] y h = absurd (contains-none y h)
flat_map-contains {A} {B} f (x ∷ xs) y h = elim (Contains-append_cases (f x) (flat_map f xs) y h) [
  | inl here ↦ (x, contains-first x xs, here)
  | inr later ↦ let rest = flat_map-contains f xs y later in (rest.0, contains-later x xs rest.0 rest.1, rest.2)
]

-- equal lists begin alike, and go on alike
pub same_first : {A : Type 0} {x y : A} {xs ys : List A} → x ∷ xs ≡ y ∷ ys → x ≡ y
same_first e = cc

pub same_rest : {A : Type 0} {x y : A} {xs ys : List A} → x ∷ xs ≡ y ∷ ys → xs ≡ ys
same_rest e = cc

-- a list is empty, or has a last element
pub by_last : {A : Type 0} (xs : List A) → (xs ≡ []) ⊎ ((ys : List A) × (x : A) × (xs ≡ ys ++ x ∷ []))
by_last {A} [] = inl refl
by_last {A} (x ∷ xs) = elim (by_last xs) [
  | inl none ↦ inr ([], x, ap (λ (l : List A). x ∷ l) none)
  | inr (ys, y, e) ↦ inr (x ∷ ys, y, ap (λ (l : List A). x ∷ l) e)
]
