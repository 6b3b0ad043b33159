-- What passes a test among the first of a list.
use Rattle.std.proofs.Common.{◌≡◌, ℕ, ◌+◌, ◌<◌, ◌≤◌, Bool, true, false, cond, List, [], ◌∷◌, ◌++◌, length, map, take, drop, get_or, ap, sym, ◌∙◌, arith, length-append}
use Rattle.std.proofs.lemmas.List.{append-nil, map-append, take-append-drop, take_more}
use Rattle.std.proofs.lemmas.List.Elements.{filter-append}
use Rattle.std.specs.List.{filter}

-- one more
pub taken : {A : Type 0} (p : A → Bool) (xs : List A) (i : ℕ) (x : A) → i < length xs → get_or xs i x ≡ x → p x ≡ true → filter p (take (i + 1) xs) ≡ filter p (take i xs) ++ x ∷ []
taken {A} p xs i x low here yes_ =
    ap (filter p) (take_more xs i x low ∙ ap (λ (y : A). take i xs ++ y ∷ []) here) ∙ filter-append p (take i xs) (x ∷ []) ∙ ap (λ (b : Bool). filter p (take i xs) ++ cond b (x ∷ []) []) yes_

pub skipped : {A : Type 0} (p : A → Bool) (xs : List A) (i : ℕ) (x : A) → i < length xs → get_or xs i x ≡ x → p x ≡ false → filter p (take (i + 1) xs) ≡ filter p (take i xs)
skipped {A} p xs i x low here no_ =
    ap (filter p) (take_more xs i x low ∙ ap (λ (y : A). take i xs ++ y ∷ []) here) ∙ filter-append p (take i xs) (x ∷ []) ∙ ap (λ (b : Bool). filter p (take i xs) ++ cond b (x ∷ []) []) no_ ∙ append-nil (filter p (take i xs))

-- there are no fewer among all
pub filter-most : {A : Type 0} (p : A → Bool) (xs : List A) (i : ℕ) → length (filter p (take i xs)) ≤ length (filter p xs)
filter-most {A} p xs i =
    let e : length (filter p xs) ≡ length (filter p (take i xs)) + length (filter p (drop i xs)) =
    ap (λ (l : List A). length (filter p l)) (sym (take-append-drop i xs)) ∙ ap (λ (l : List A). length l) (filter-append p (take i xs) (drop i xs)) ∙ length-append (filter p (take i xs)) (filter p (drop i xs)) in
    omega arith

pub mapped-more : {A B : Type 0} (f : A → B) (xs ys : List A) (x : A) (rows new : List B) → ys ≡ xs ++ x ∷ [] → rows ≡ map f xs → new ≡ rows ++ f x ∷ [] → new ≡ map f ys
mapped-more {A} {B} f xs ys x rows new e is made = made ∙ ap (λ (l : List B). l ++ f x ∷ []) is ∙ sym (map-append f xs (x ∷ [])) ∙ ap (map f) (sym e)
