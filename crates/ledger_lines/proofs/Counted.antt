-- Numbers counted and added up one by one.
use Rattle.std.proofs.Common.{◌≡◌, ℕ, ◌+◌, ◌<◌, ◌≤◌, zero, suc, inl, inr, Bool, true, false, cond, List, [], ◌∷◌, refl, ap, ◌∙◌, arith}
use Rattle.std.specs.List.{count_by, filter, range_with_len, sum_by}
use Rattle.std.proofs.lemmas.Bool.{cases_Bool}
use Rattle.std.proofs.lemmas.List.FromFn.{length-range_with_len}
use Rattle.std.proofs.lemmas.List.Sums.{count_by-le-length, sum_by-cons}
use Rattle.general_lemmas.proofs.Counts.{count-end, one_if}

-- how many of the first numbers pass a test
abbrev pub count_first : (ℕ → Bool) → ℕ → ℕ
count_first p i = count_by p (range_with_len 0 i)

pub count-more : (p : ℕ → Bool) (i s n after : ℕ) (here : Bool) → n ≡ count_first p i → s ≡ i → here ≡ p s → after ≡ n + cond here 1 0 → after ≡ count_first p (i + 1)
count-more p i s n after here so_far at_i is e =
    let grown = count-end p i 0 in
    let from_zero : s ≡ 0 + i = omega (arith, at_i) in
    let last : ◌≡◌ {A = ℕ} (cond here 1 0) (one_if (p (0 + i))) = ap one_if (is ∙ ap p from_zero) in
    let suc_i : i + 1 ≡ suc i = omega arith in
    let next : count_first p (i + 1) ≡ count_first p (suc i) = ap (count_first p) suc_i in
    omega (arith, grown, last, next, so_far, e)

pub few-counted : (p : ℕ → Bool) (i n : ℕ) → n ≡ count_first p i → n ≤ i
few-counted p i n e = omega (arith, e, count_by-le-length p (range_with_len 0 i), length-range_with_len 0 i)

pub all-counted : (p : ℕ → Bool) (i n : ℕ) → n ≡ count_first p i → i ≡ 64 → n ≡ count_by p (range_with_len 0 64)
all-counted p i n e whole = e ∙ ap (count_first p) whole

-- of the first numbers no more pass than there are below the first that doesn't
pub count-within : (p : ℕ → Bool) (most k : ℕ) → ((n : ℕ) → p n ≡ true → n < most) → count_first p k ≤ most
count-within p most zero each = omega arith
count-within p most (suc k) each =
    let more = count-end p k 0 in
    let zeroth : 0 + k ≡ k = omega arith in
    let last : ◌≡◌ {A = ℕ} (one_if (p (0 + k))) (one_if (p k)) = ap (λ (n : ℕ). one_if (p n)) zeroth in
    elim (cases_Bool (p k)) [
      | inl passes ↦
          let one : one_if (p k) ≡ 1 = ap one_if passes in
          omega (arith, more, last, one, each k passes, count_by-le-length p (range_with_len 0 k), length-range_with_len 0 k)
      | inr fails ↦
          let none : one_if (p k) ≡ 0 = ap one_if fails in
          omega (arith, more, last, none, count-within p most k each)
    ]

sum-end : (f : ℕ → ℕ) (n k : ℕ) → sum_by f (range_with_len k (suc n)) ≡ sum_by f (range_with_len k n) + f (k + n)
sum-end f zero k = let e : f k ≡ f (k + 0) = ap f (omega arith) in omega (arith, sum_by-cons f k [], e)
sum-end f (suc n) k =
    let e : f (k + 1 + n) ≡ f (k + suc n) = ap f (omega arith) in
    omega (arith, sum_by-cons f k (range_with_len (k + 1) (suc n)), sum_by-cons f k (range_with_len (k + 1) n), sum-end f n (k + 1), e)

-- the sum over the first numbers, with one number more
pub sum-more : (f : ℕ → ℕ) (i s n more after : ℕ) → n ≡ sum_by f (range_with_len 0 i) → s ≡ i → more ≡ f s → after ≡ n + more → after ≡ sum_by f (range_with_len 0 (i + 1))
sum-more f i s n more after so_far at_i is e =
    let grown = sum-end f i 0 in
    let from_zero : s ≡ 0 + i = omega (arith, at_i) in
    let last : more ≡ f (0 + i) = is ∙ ap f from_zero in
    let suc_i : i + 1 ≡ suc i = omega arith in
    let next : sum_by f (range_with_len 0 (i + 1)) ≡ sum_by f (range_with_len 0 (suc i)) = ap (λ (m : ℕ). sum_by f (range_with_len 0 m)) suc_i in
    omega (arith, grown, last, next, so_far, e)

sum-one : (f : ℕ → ℕ) (b : Bool) (x : ℕ) (xs : List ℕ) → sum_by f (cond b (x ∷ xs) xs) ≡ cond b (f x) 0 + sum_by f xs
sum-one f true x xs = sum_by-cons f x xs
sum-one f false x xs = omega arith

-- the sum over the numbers that pass
pub sum-chosen : (f : ℕ → ℕ) (p : ℕ → Bool) (xs : List ℕ) → sum_by f (filter p xs) ≡ sum_by (λ x. cond (p x) (f x) 0) xs
sum-chosen f p [] = refl
sum-chosen f p (x ∷ xs) = omega (arith, sum-one f (p x) x (filter p xs), sum_by-cons (λ y. cond (p y) (f y) 0) x xs, sum-chosen f p xs)
