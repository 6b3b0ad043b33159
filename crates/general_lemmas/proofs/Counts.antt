-- How many numbers of a list pass a test.
use Rattle.std.proofs.Common.{◌≡◌, ℕ, zero, suc, ◌+◌, ◌≤◌, Bool, true, false, cond, List, [], ◌∷◌, refl, sym, ap, arith, true≢false}
use Rattle.std.proofs.lemmas.List.Sums.{sum_by-cons}
use Rattle.std.specs.List.{count_by, range_with_len}

-- 1 for what passes a test, and 0 for what fails it
abbrev pub one_if : Bool → ℕ
one_if b = cond b 1 0

pub one_if-most : (b : Bool) → one_if b ≤ 1
one_if-most true = omega arith
one_if-most false = omega arith

-- what passes one test passes another
pub one_if-more : (a b : Bool) → (a ≡ true → b ≡ true) → one_if a ≤ one_if b
one_if-more false b implied = omega arith
one_if-more true true implied = omega arith
one_if-more true false implied = absurd (true≢false (sym (implied refl)))

pub count-cons : (p : ℕ → Bool) (k : ℕ) (ks : List ℕ) → count_by p (k ∷ ks) ≡ one_if (p k) + count_by p ks
count-cons p k ks = sum_by-cons (λ x. cond (p x) 1 0) k ks

-- a test on one number more
pub count-end : (p : ℕ → Bool) (n k : ℕ) → count_by p (range_with_len k (suc n)) ≡ count_by p (range_with_len k n) + one_if (p (k + n))
count-end p zero k = let e : one_if (p k) ≡ one_if (p (k + 0)) = ap (λ (s : ℕ). one_if (p s)) (omega arith) in omega (arith, count-cons p k [], e)
count-end p (suc n) k =
    let e : one_if (p (k + 1 + n)) ≡ one_if (p (k + suc n)) = ap (λ (s : ℕ). one_if (p s)) (omega arith) in
    omega (arith, count-cons p k (range_with_len (k + 1) (suc n)), count-cons p k (range_with_len (k + 1) n), count-end p n (k + 1), e)
