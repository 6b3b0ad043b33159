-- The numbers of a range, and a test of each.
use Rattle.std.proofs.Common.{◌≡◌, ℕ, zero, suc, ◌+◌, ◌-◌, ◌<◌, ◌≤◌, Bool, true, false, cond, ◌&&◌, ◌||◌, inl, inr, subst, List, [], ◌∷◌, ◌++◌, refl, sym, ap, ◌∙◌, arith}
use Rattle.std.proofs.lemmas.Bool.{and_from, and_parts, both_ways, cases_eq, or_cases, or_left, or_right}
use Rattle.std.proofs.lemmas.List.{append_assoc, append-nil}
use Rattle.std.proofs.lemmas.List.Elements.{filter-append}
use Rattle.std.proofs.lemmas.List.FromFn.{get_or-range_with_len, length-range_with_len}
use Rattle.std.specs.List.{Contains, filter, flat_map, list_all, list_any, range_with_len}

all_here : (p : ℕ → Bool) (k n : ℕ) → k < n → list_all p (range_with_len k (n - k)) ≡ (p k && list_all p (range_with_len (k + 1) (n - (k + 1))))
all_here p k n below = let e : n - k ≡ suc (n - (k + 1)) = omega arith in ap (λ (m : ℕ). list_all p (range_with_len k m)) e

-- the first number passes, and the rest is left to test
pub all_step : (p : ℕ → Bool) (k n : ℕ) (b : Bool) → k < n → p k ≡ true → list_all p (range_with_len k (n - k)) ≡ b → list_all p (range_with_len (k + 1) (n - (k + 1))) ≡ b
all_step p k n b below here so_far = sym (all_here p k n below ∙ ap (λ (t : Bool). t && list_all p (range_with_len (k + 1) (n - (k + 1)))) here) ∙ so_far

-- the first number fails
pub all_stop : (p : ℕ → Bool) (k n : ℕ) (b : Bool) → k < n → p k ≡ false → list_all p (range_with_len k (n - k)) ≡ b → false ≡ b
all_stop p k n b below here so_far = sym (all_here p k n below ∙ ap (λ (t : Bool). t && list_all p (range_with_len (k + 1) (n - (k + 1)))) here) ∙ so_far

any_here : (p : ℕ → Bool) (k n : ℕ) → k < n → list_any p (range_with_len k (n - k)) ≡ (p k || list_any p (range_with_len (k + 1) (n - (k + 1))))
any_here p k n below = let e : n - k ≡ suc (n - (k + 1)) = omega arith in ap (λ (m : ℕ). list_any p (range_with_len k m)) e

pub any_step : (p : ℕ → Bool) (k n : ℕ) (b : Bool) → k < n → p k ≡ false → list_any p (range_with_len k (n - k)) ≡ b → list_any p (range_with_len (k + 1) (n - (k + 1))) ≡ b
any_step p k n b below here so_far = sym (any_here p k n below ∙ ap (λ (t : Bool). t || list_any p (range_with_len (k + 1) (n - (k + 1)))) here) ∙ so_far

pub any_stop : (p : ℕ → Bool) (k n : ℕ) (b : Bool) → k < n → p k ≡ true → list_any p (range_with_len k (n - k)) ≡ b → true ≡ b
any_stop p k n b below here so_far = sym (any_here p k n below ∙ ap (λ (t : Bool). t || list_any p (range_with_len (k + 1) (n - (k + 1)))) here) ∙ so_far

-- nothing is left to test
pub any_end : (p : ℕ → Bool) (k n : ℕ) (b : Bool) → n ≤ k → list_any p (range_with_len k (n - k)) ≡ b → false ≡ b
any_end p k n b past so_far = let e : 0 ≡ n - k = omega arith in ap (λ (m : ℕ). list_any p (range_with_len k m)) e ∙ so_far

-- what is tested of each number of a range holds of each
pub all_in_range : (p : ℕ → Bool) (k n i : ℕ) → list_all p (range_with_len k n) ≡ true → k ≤ i → i < k + n → p i ≡ true
all_in_range p k zero i h low high = absurd (omega arith)
all_in_range p k (suc n) i h low high = elim (cases_eq k i) [
  | inl same ↦ subst (λ (x : ℕ). p x ≡ true) same (and_parts _ _ h).0
  | inr other ↦ all_in_range p (k + 1) n i (and_parts _ _ h).1 (omega arith) (omega arith)
]

-- what stands in a range
pub contains-range : (k n i : ℕ) → k ≤ i → i < k + n → Contains (range_with_len k n) i
contains-range k n i low high =
    let place : i - k < n = omega arith in
    (i - k, omega (arith, length-range_with_len k n), get_or-range_with_len k n (i - k) i place ∙ omega arith)

pub range-contains : (k n i : ℕ) → Contains (range_with_len k n) i → (k ≤ i) × (i < k + n)
range-contains k n i (j, inside, is) =
    let small : j < n = omega (arith, length-range_with_len k n) in
    let at = get_or-range_with_len k n j i small in
    (omega arith, omega arith)

-- of lists made one for each number, the first is kept, and the rest is left to keep
pub kept_step : {A : Type 0} (f : ℕ → List A) (p : A → Bool) (k n : ℕ) (done whole : List A) → k < n → done ++ filter p (flat_map f (range_with_len k (n - k))) ≡ whole → (done ++ filter p (f k)) ++ filter p (flat_map f (range_with_len (k + 1) (n - (k + 1)))) ≡ whole
kept_step {A} f p k n done whole below so_far =
    let rest : List A = flat_map f (range_with_len (k + 1) (n - (k + 1))) in
    let e : n - k ≡ suc (n - (k + 1)) = omega arith in
    append_assoc done (filter p (f k)) (filter p rest)
    ∙ ap (λ (l : List A). done ++ l) (sym (filter-append p (f k) rest))
    ∙ ap (λ (m : ℕ). done ++ filter p (flat_map f (range_with_len k m))) (sym e)
    ∙ so_far

-- nothing is left to keep
pub kept_end : {A : Type 0} (f : ℕ → List A) (p : A → Bool) (k n : ℕ) (done whole : List A) → n ≤ k → done ++ filter p (flat_map f (range_with_len k (n - k))) ≡ whole → done ≡ whole
kept_end {A} f p k n done whole past so_far =
    let e : 0 ≡ n - k = omega arith in
    sym (append-nil done) ∙ ap (λ (m : ℕ). done ++ filter p (flat_map f (range_with_len k m))) e ∙ so_far

first_kept : {A : Type 0} (b : Bool) (x : A) (rest : List A) → cond b (x ∷ []) [] ++ rest ≡ cond b (x ∷ rest) rest
first_kept true x rest = refl
first_kept false x rest = refl

-- one more is kept if it passes
pub kept_more : {A : Type 0} (p : A → Bool) (x : A) (xs old new : List A) → new ≡ old ++ cond (p x) (x ∷ []) [] → new ++ filter p xs ≡ old ++ filter p (x ∷ xs)
kept_more {A} p x xs old new h =
    ap (λ (l : List A). l ++ filter p xs) h ∙ append_assoc old (cond (p x) (x ∷ []) []) (filter p xs) ∙ ap (λ (l : List A). old ++ l) (first_kept (p x) x (filter p xs))

-- what holds of each number of a range is tested so
pub all-each : (p : ℕ → Bool) (k n : ℕ) → ((i : ℕ) → k ≤ i → i < k + n → p i ≡ true) → list_all p (range_with_len k n) ≡ true
all-each p k zero each = refl
all-each p k (suc n) each = and_from _ _ (each k (omega arith) (omega arith)) (all-each p (k + 1) n (λ i low high. each i (omega arith) (omega arith)))

-- a number of the range that passes
pub any-found : (p : ℕ → Bool) (k n i : ℕ) → k ≤ i → i < k + n → p i ≡ true → list_any p (range_with_len k n) ≡ true
any-found p k zero i low high h = absurd (omega arith)
any-found p k (suc n) i low high h = elim (cases_eq k i) [
  | inl same ↦ or_left _ _ (ap p same ∙ h)
  | inr other ↦ or_right _ _ (any-found p (k + 1) n i (omega arith) (omega arith) h)
]

pub record Passes (p : ℕ → Bool) (high : ℕ) : Type 0 where
  pub number : ℕ
  pub below : number < high
  pub passes : p number ≡ true

-- some number of the range passes
pub any-one : (p : ℕ → Bool) (k n : ℕ) → list_any p (range_with_len k n) ≡ true → Passes p (k + n)
any-one p k zero h = absurd (both_ways false refl h)
any-one p k (suc n) h = elim (or_cases _ _ h) [
  | inl here ↦ record { number = k; below = omega arith; passes = here }
  | inr later ↦
      let w = any-one p (k + 1) n later in
      let below = w.below in
      record { number = w.number; below = omega arith; passes = w.passes }
]
