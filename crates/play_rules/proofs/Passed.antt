-- Numbers that are passed over in a range.
use Rattle.std.proofs.Common.{◌≡◌, ℕ, zero, suc, ◌+◌, ◌-◌, ◌<◌, ◌≤◌, Bool, false, List, [], ◌++◌, ap, sym, ◌∙◌, subst, arith}
use Rattle.std.proofs.lemmas.List.{append-nil}
use Rattle.std.specs.List.{filter, flat_map, list_any, range_with_len}
use Rattle.general_lemmas.proofs.Ranges.{any_step, kept_step}

climbs : (P : ℕ → Type 0) (k d : ℕ) → ((i : ℕ) → k ≤ i → i < k + d → P i → P (i + 1)) → P k → P (k + d)
climbs P k zero each here = let e : k ≡ k + 0 = omega arith in subst P e here
climbs P k (suc d) each here =
    let e : k + 1 + d ≡ k + suc d = omega arith in
    subst P e (climbs P (k + 1) d (λ i low high. each i (omega arith) (omega arith)) (each k (omega arith) (omega arith) here))

-- what each number hands on to the next comes from one number to another
climb : (P : ℕ → Type 0) (k e : ℕ) → k ≤ e → ((i : ℕ) → k ≤ i → i < e → P i → P (i + 1)) → P k → P e
climb P k e low each here =
    let same : k + (e - k) ≡ e = omega arith in
    subst P same (climbs P k (e - k) (λ i from to. each i from (omega arith)) here)

-- numbers that fail are passed over
pub any_to : (p : ℕ → Bool) (k e n : ℕ) (b : Bool) → k ≤ e → e ≤ n → ((i : ℕ) → k ≤ i → i < e → p i ≡ false) → list_any p (range_with_len k (n - k)) ≡ b → list_any p (range_with_len e (n - e)) ≡ b
any_to p k e n b low few none =
    climb (λ i. list_any p (range_with_len i (n - i)) ≡ b) k e low (λ i from to. any_step p i n b (omega arith) (none i from to))

-- numbers for which nothing is kept are passed over
pub kept_to : {A : Type 0} (f : ℕ → List A) (p : A → Bool) (k e n : ℕ) (done whole : List A) → k ≤ e → e ≤ n → ((i : ℕ) → k ≤ i → i < e → filter p (f i) ≡ []) → done ++ filter p (flat_map f (range_with_len k (n - k))) ≡ whole → done ++ filter p (flat_map f (range_with_len e (n - e))) ≡ whole
kept_to {A} f p k e n done whole low few none =
    climb (λ i. done ++ filter p (flat_map f (range_with_len i (n - i))) ≡ whole) k e low (λ i from to so_far.
    let rest : List A = filter p (flat_map f (range_with_len (i + 1) (n - (i + 1)))) in
    let same : done ≡ done ++ filter p (f i) = sym (append-nil done) ∙ ap (λ (l : List A). done ++ l) (sym (none i from to)) in
    ap (λ (l : List A). l ++ rest) same ∙ kept_step f p i n done whole (omega arith) so_far)
