-- The first number of a range that passes a test.
use Rattle.std.proofs.Common.{◌≡◌, ℕ, suc, ◌+◌, ◌-◌, ◌<◌, ◌≤◌, Bool, true, false, cond, Option, Some, None, sym, ap, ◌∙◌, arith}
use Rattle.std.proofs.lemmas.Bool.{cond-true, cond-false}
use Rattle.std.specs.List.{find, range_with_len}

find_here : (p : ℕ → Bool) (k n : ℕ) → k < n → find p (range_with_len k (n - k)) ≡ cond (p k) (Some k) (find p (range_with_len (k + 1) (n - (k + 1))))
find_here p k n below = let e : n - k ≡ suc (n - (k + 1)) = omega arith in ap (λ (m : ℕ). find p (range_with_len k m)) e

-- the first number fails, and the rest is left to try
pub find_step : (p : ℕ → Bool) (k n : ℕ) (r : Option ℕ) → k < n → p k ≡ false → find p (range_with_len k (n - k)) ≡ r → find p (range_with_len (k + 1) (n - (k + 1))) ≡ r
find_step p k n r below here so_far = sym (find_here p k n below ∙ cond-false (p k) (Some k) (find p (range_with_len (k + 1) (n - (k + 1)))) here) ∙ so_far

-- the first number passes
pub find_stop : (p : ℕ → Bool) (k n : ℕ) (r : Option ℕ) → k < n → p k ≡ true → find p (range_with_len k (n - k)) ≡ r → Some k ≡ r
find_stop p k n r below here so_far = sym (find_here p k n below ∙ cond-true (p k) (Some k) (find p (range_with_len (k + 1) (n - (k + 1)))) here) ∙ so_far

-- nothing is left to try
pub find_end : (p : ℕ → Bool) (k n : ℕ) (r : Option ℕ) → n ≤ k → find p (range_with_len k (n - k)) ≡ r → None ≡ r
find_end p k n r past so_far = let e : 0 ≡ n - k = omega arith in ap (λ (m : ℕ). find p (range_with_len k m)) e ∙ so_far
