-- Lists of numbers that differ: members, and lists joined, filtered, mapped and led elsewhere.
use Rattle.std.proofs.Common.{Bool, true, false, cond, ◌≡◌, ◌≢◌, ◌⊎◌, ℕ, zero, suc, ◌+◌, ◌<◌, ◌≤◌, cond, inl, inr, List, [], ◌∷◌, ◌++◌, length, get_or, refl, ap, map, sym, ◌∙◌, subst, arith}
use Rattle.std.proofs.lemmas.Bool.{cases_eq}
use Rattle.std.specs.Prelude.{Option, Some, None}
use Rattle.std.specs.List.{Contains, AllPairs, filter, cons_option, filter_map, range_with_len}
use Rattle.general_lemmas.proofs.Lists.{contains-first, contains-later, contains-cases, contains-none}

-- the number stands in the list
abbrev pub Has : List ℕ → ℕ → Type 0
Has [] y = ⊥
Has (x ∷ xs) y = (x ≡ y) ⊎ Has xs y

-- no number stands in the list twice
abbrev pub Differ : List ℕ → Type 0
Differ [] = Unit {0}
Differ (x ∷ xs) = (Has xs x → ⊥) × Differ xs

pub has-contains : (xs : List ℕ) (y : ℕ) → Has xs y → Contains xs y
has-contains [] y h = elim h [ ]
has-contains (x ∷ xs) y h = elim h [
  | inl e ↦ subst (λ (z : ℕ). Contains (x ∷ xs) z) e (contains-first x xs)
  | inr there ↦ contains-later x xs y (has-contains xs y there)
]

pub contains-has : (xs : List ℕ) (y : ℕ) → Contains xs y → Has xs y
contains-has [] y h = contains-none y h
contains-has (x ∷ xs) y h = elim (contains-cases x xs y h) [
  | inl e ↦ inl e
  | inr there ↦ inr (contains-has xs y there)
]

has-at : (xs : List ℕ) (k d : ℕ) → k < length xs → Has xs (get_or xs k d)
has-at [] k d inside = absurd (omega arith)
has-at (x ∷ xs) zero d inside = inl refl
has-at (x ∷ xs) (suc k) d inside = inr (has-at xs k d (omega arith))

-- they stand at different places
pub differ-apart : (xs : List ℕ) → Differ xs → (i j d : ℕ) → i < length xs → j < length xs → get_or xs i d ≡ get_or xs j d → i ≡ j
differ-apart [] h i j d low high same = absurd (omega arith)
differ-apart (x ∷ xs) h zero zero d low high same = refl
differ-apart (x ∷ xs) h zero (suc j) d low high same = absurd (h.0 (subst (Has xs) (sym same) (has-at xs j d (omega arith))))
differ-apart (x ∷ xs) h (suc i) zero d low high same = absurd (h.0 (subst (Has xs) same (has-at xs i d (omega arith))))
differ-apart (x ∷ xs) h (suc i) (suc j) d low high same = ap suc (differ-apart xs h.1 i j d (omega arith) (omega arith) same)

pub pairs-differ : (xs : List ℕ) → Differ xs → AllPairs (λ x y. x ≢ y) xs
pairs-differ xs h i j d low high = λ same. let one = differ-apart xs h i j d (omega arith) high same in omega arith

pub has-left : (xs ys : List ℕ) (y : ℕ) → Has xs y → Has (xs ++ ys) y
has-left [] ys y h = elim h [ ]
has-left (x ∷ xs) ys y h = elim h [ inl e ↦ inl e | inr there ↦ inr (has-left xs ys y there) ]

pub has-right : (xs ys : List ℕ) (y : ℕ) → Has ys y → Has (xs ++ ys) y
has-right [] ys y h = h
has-right (x ∷ xs) ys y h = inr (has-right xs ys y h)

pub has-either : (xs ys : List ℕ) (y : ℕ) → Has (xs ++ ys) y → Has xs y ⊎ Has ys y
has-either [] ys y h = inr h
has-either (x ∷ xs) ys y h = elim h [
  | inl e ↦ inl (inl e)
  | inr there ↦ elim (has-either xs ys y there) [ inl a ↦ inl (inr a) | inr b ↦ inr b ]
]

pub differ-append : (xs ys : List ℕ) → Differ xs → Differ ys → ((z : ℕ) → Has xs z → Has ys z → ⊥) → Differ (xs ++ ys)
differ-append [] ys a b apart = b
differ-append (x ∷ xs) ys a b apart = (
  λ h. elim (has-either xs ys x h) [ inl here ↦ a.0 here | inr there ↦ apart x (inl refl) there ],
  differ-append xs ys a.1 b (λ z h. apart z (inr h)),
)

-- members of a list that is filtered or mapped
has-kept : (b : Bool) (x : ℕ) (xs ys : List ℕ) (y : ℕ) → Has (cond b (x ∷ xs) ys) y → ((b ≡ true) × Has (x ∷ xs) y) ⊎ Has ys y
has-kept true x xs ys y h = inl (refl, h)
has-kept false x xs ys y h = inr h

pub has-filter : (p : ℕ → Bool) (xs : List ℕ) (y : ℕ) → Has (filter p xs) y → (p y ≡ true) × Has xs y
has-filter p [] y h = elim h [ ]
has-filter p (x ∷ xs) y h = elim (has-kept (p x) x (filter p xs) (filter p xs) y h) [
  | inl first ↦ elim first.1 [
    | inl e ↦ (ap p (sym e) ∙ first.0, inl e)
    | inr there ↦ let more = has-filter p xs y there in (more.0, inr more.1)
  ]
  | inr there ↦ let more = has-filter p xs y there in (more.0, inr more.1)
]

differ-kept : (b : Bool) (x : ℕ) (xs : List ℕ) → (Has xs x → ⊥) → Differ xs → Differ (cond b (x ∷ xs) xs)
differ-kept true x xs new d = (new, d)
differ-kept false x xs new d = d

pub differ-filter : (p : ℕ → Bool) (xs : List ℕ) → Differ xs → Differ (filter p xs)
differ-filter p [] d = tt
differ-filter p (x ∷ xs) d = differ-kept (p x) x (filter p xs) (λ h. d.0 (has-filter p xs x h).1) (differ-filter p xs d.1)

pub has-map : (h : ℕ → ℕ) (xs : List ℕ) (y : ℕ) → Has (map h xs) y → (x : ℕ) × Has xs x × (h x ≡ y)
has-map h [] y there = elim there [ ]
has-map h (x ∷ xs) y there = elim there [
  | inl e ↦ (x, inl refl, e)
  | inr later ↦ let found = has-map h xs y later in (found.0, inr found.1, found.2)
]

-- numbers that differ have different values, where the function keeps them apart
pub differ-map : (h : ℕ → ℕ) (xs : List ℕ) → ((x y : ℕ) → Has xs x → Has xs y → h x ≡ h y → x ≡ y) → Differ xs → Differ (map h xs)
differ-map h [] apart d = tt
differ-map h (x ∷ xs) apart d = (
  λ there. let found = has-map h xs (h x) there in d.0 (subst (Has xs) (apart found.0 x (inr found.1) (inl refl) found.2) found.1),
  differ-map h xs (λ y z a b. apart y z (inr a) (inr b)) d.1,
)

-- no two numbers lead to one
abbrev pub LeadsApart : (ℕ → Option ℕ) → Type 0
LeadsApart to = (s t u : ℕ) → to s ≡ Some u → to t ≡ Some u → s ≡ t

has-option : (o : Option ℕ) (xs : List ℕ) (y : ℕ) → Has (cons_option o xs) y → (o ≡ Some y) ⊎ Has xs y
has-option None xs y h = inr h
has-option (Some u) xs y h = elim h [ inl e ↦ inl (ap Some e) | inr there ↦ inr there ]

pub has-led : (to : ℕ → Option ℕ) (ks : List ℕ) (y : ℕ) → Has (filter_map to ks) y → (k : ℕ) × Has ks k × (to k ≡ Some y)
has-led to [] y h = elim h [ ]
has-led to (k ∷ ks) y h = elim (has-option (to k) (filter_map to ks) y h) [
  | inl e ↦ (k, inl refl, e)
  | inr there ↦ let found = has-led to ks y there in (found.0, inr found.1, found.2)
]

differ-option : (o : Option ℕ) (xs : List ℕ) → Differ xs → ((y : ℕ) → o ≡ Some y → Has xs y → ⊥) → Differ (cons_option o xs)
differ-option None xs d apart = d
differ-option (Some u) xs d apart = (apart u refl, d)

pub differ-led : (to : ℕ → Option ℕ) → LeadsApart to → (ks : List ℕ) → Differ ks → Differ (filter_map to ks)
differ-led to apart [] d = tt
differ-led to apart (k ∷ ks) d = differ-option (to k) (filter_map to ks) (differ-led to apart ks d.1) (λ y e h.
    let found = has-led to ks y h in d.0 (subst (Has ks) (apart found.0 k y found.2 e) found.1))

-- the numbers of a range
pub has-range : (k n i : ℕ) → k ≤ i → i < k + n → Has (range_with_len k n) i
has-range k zero i low high = absurd (omega arith)
has-range k (suc n) i low high = elim (cases_eq k i) [
  | inl same ↦ inl same
  | inr other ↦ inr (has-range (k + 1) n i (omega arith) (omega arith))
]

pub range-has : (k n i : ℕ) → Has (range_with_len k n) i → (k ≤ i) × (i < k + n)
range-has k zero i h = elim h [ ]
range-has k (suc n) i h = elim h [
  | inl same ↦ (omega arith, omega arith)
  | inr there ↦ let later = range-has (k + 1) n i there in let low = later.0 in let high = later.1 in (omega arith, omega arith)
]

pub differ-range : (k n : ℕ) → Differ (range_with_len k n)
differ-range k zero = tt
differ-range k (suc n) = (λ h. let later = range-has (k + 1) n k h in let low = later.0 in omega arith, differ-range (k + 1) n)
