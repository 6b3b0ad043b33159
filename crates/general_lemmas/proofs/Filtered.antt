-- What is left of a filtered list.
use Rattle.std.proofs.Common.{◌≡◌, ℕ, zero, suc, ◌+◌, ◌<◌, ◌≤◌, Bool, true, false, List, [], ◌∷◌, length, drop, refl, ap, ◌∙◌, arith}
use Rattle.std.proofs.lemmas.Bool.{cond-true, cond-false}
use Rattle.std.proofs.lemmas.List.{drop_more, drop_all}
use Rattle.std.proofs.lemmas.Option.{slice_get_within, get_or_from_slice_get}
use Rattle.std.specs.Prelude.{Some, slice_get}
use Rattle.std.specs.List.{Contains, filter}
use Rattle.general_lemmas.proofs.Lists.{filter-contains}

drop-at : {A : Type 0} (xs : List A) (i : ℕ) (x : A) → slice_get xs i ≡ Some x → drop i xs ≡ x ∷ drop (i + 1) xs
drop-at {A} xs i x here = drop_more xs i x (slice_get_within xs i x here) ∙ ap (λ (y : A). y ∷ drop (i + 1) xs) (get_or_from_slice_get xs i x x here)

-- the next one fails the test, or passes it, or there is none
pub rest_fails : {A : Type 0} (p : A → Bool) (xs : List A) (i : ℕ) (x : A) → slice_get xs i ≡ Some x → p x ≡ false → filter p (drop i xs) ≡ filter p (drop (i + 1) xs)
rest_fails {A} p xs i x here fails = ap (filter p) (drop-at xs i x here) ∙ cond-false (p x) (x ∷ filter p (drop (i + 1) xs)) (filter p (drop (i + 1) xs)) fails

pub rest_takes : {A : Type 0} (p : A → Bool) (xs : List A) (i : ℕ) (x : A) → slice_get xs i ≡ Some x → p x ≡ true → filter p (drop i xs) ≡ x ∷ filter p (drop (i + 1) xs)
rest_takes {A} p xs i x here passes = ap (filter p) (drop-at xs i x here) ∙ cond-true (p x) (x ∷ filter p (drop (i + 1) xs)) (filter p (drop (i + 1) xs)) passes

pub rest_ends : {A : Type 0} (p : A → Bool) (xs : List A) (i : ℕ) → length xs ≤ i → filter p (drop i xs) ≡ []
rest_ends {A} p xs i past = ap (filter p) (drop_all i xs past)

-- none from one number to below another passes the test
pub rest_skips : {A : Type 0} (p : A → Bool) (xs : List A) (i j : ℕ) → i ≤ j → ((n : ℕ) (x : A) → i ≤ n → n < j → slice_get xs n ≡ Some x → p x ≡ false) → filter p (drop i xs) ≡ filter p (drop j xs)
rest_skips {A} p xs zero zero le none = refl
rest_skips {A} p xs (suc i) zero le none = absurd (omega arith)
rest_skips {A} p [] zero (suc j) le none = refl
rest_skips {A} p [] (suc i) (suc j) le none = refl
rest_skips {A} p (x ∷ xs) zero (suc j) le none =
    cond-false (p x) (x ∷ filter p xs) (filter p xs) (none 0 x (omega arith) (omega arith) refl) ∙ rest_skips p xs zero j (omega arith) (λ n y low high e. none (suc n) y (omega arith) (omega arith) e)
rest_skips {A} p (x ∷ xs) (suc i) (suc j) le none = rest_skips p xs i j (omega arith) (λ n y low high e. none (suc n) y (omega arith) (omega arith) e)

-- what stands in a filtered list
pub passes-filter : {A : Type 0} (p : A → Bool) (xs : List A) (x : A) → Contains (filter p xs) x → p x ≡ true
passes-filter {A} p xs x h = (filter-contains p xs x h).1
