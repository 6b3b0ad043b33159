-- Sketches made figure by figure.
use Rattle.std.proofs.Common.{◌≡◌, ◌+◌, ◌<◌, ℕ, zero, suc, List, [], ◌∷◌, ◌++◌, length, get_or, map, take, ap, sym, ◌∙◌, arith}
use Rattle.std.proofs.lemmas.List.{take_more, map-append}

-- the first i figures are made
pub record MadeTo {A B : Type 0} (h : A → B) (figures : List A) (i : ℕ) (made : List B) : Type 0 where
  pub size : length made ≡ i
  pub is : made ≡ map h (take i figures)

pub map-more : {A B : Type 0} (h : A → B) (xs : List A) (i : ℕ) (x : A) → i < length xs → x ≡ get_or xs i x → map h (take (i + 1) xs) ≡ map h (take i xs) ++ h x ∷ []
map-more h xs i x low e = ap (map h) (take_more xs i x low ∙ ap (λ y. take i xs ++ y ∷ []) (sym e)) ∙ map-append h (take i xs) (x ∷ [])

pub map-at : {A B : Type 0} (h : A → B) (xs : List A) (i : ℕ) (x : A) (d : B) → i < length xs → x ≡ get_or xs i x → get_or (map h xs) i d ≡ h x
map-at h [] i x d low e = absurd (omega arith)
map-at h (y ∷ xs) zero x d low e = ap h (sym e)
map-at h (y ∷ xs) (suc i) x d low e = map-at h xs i x d (omega arith) e
