-- Lists that are made from one number after another, and texts of parts.
use Rattle.std.proofs.Common.{◌≡◌, ℕ, zero, suc, ◌+◌, List, ◌++◌, ap, sym, ◌∙◌, arith, append_assoc, append-nil}
use Rattle.std.specs.List.{flat_map, range_with_len}

-- what one number more adds
pub flat-end : {A : Type 0} (f : ℕ → List A) (n k : ℕ) → flat_map f (range_with_len k (suc n)) ≡ flat_map f (range_with_len k n) ++ f (k + n)
flat-end {A} f zero k = let e : k + 0 ≡ k = omega arith in append-nil (f k) ∙ ap f (sym e)
flat-end {A} f (suc n) k =
    let e : (k + 1) + n ≡ k + suc n = omega arith in
    ap (λ (l : List A). f k ++ l) (flat-end f n (k + 1) ∙ ap (λ (i : ℕ). flat_map f (range_with_len (k + 1) n) ++ f i) e)
    ∙ sym (append_assoc (f k) (flat_map f (range_with_len (k + 1) n)) (f (k + suc n)))

-- the same after what stands before it
pub flat_more : {A : Type 0} (f : ℕ → List A) (old done : List A) (n : ℕ) → done ≡ old ++ flat_map f (range_with_len 0 n) → done ++ f n ≡ old ++ flat_map f (range_with_len 0 (n + 1))
flat_more {A} f old done n e =
    let z : 0 + n ≡ n = omega arith in
    let s : suc n ≡ n + 1 = omega arith in
    ap (λ (l : List A). l ++ f n) e
    ∙ append_assoc old (flat_map f (range_with_len 0 n)) (f n)
    ∙ ap (λ (l : List A). old ++ l) (ap (λ (i : ℕ). flat_map f (range_with_len 0 n) ++ f i) (sym z) ∙ sym (flat-end f n 0) ∙ ap (λ (m : ℕ). flat_map f (range_with_len 0 m)) s)

-- once the last number is reached, the list is whole
pub flat_whole : {A : Type 0} (f : ℕ → List A) (old done : List A) (n m : ℕ) → done ≡ old ++ flat_map f (range_with_len 0 n) → n ≡ m → done ≡ old ++ flat_map f (range_with_len 0 m)
flat_whole {A} f old done n m e same = e ∙ ap (λ (k : ℕ). old ++ flat_map f (range_with_len 0 k)) same

-- one text after another
pub thence : (o p q a b : List ℕ) → p ≡ o ++ a → q ≡ p ++ b → q ≡ o ++ (a ++ b)
thence o p q a b e f = f ∙ ap (λ (l : List ℕ). l ++ b) e ∙ append_assoc o a b
