-- What a test keeps of one list after another, and of one element more.
use Rattle.std.proofs.Common.{◌≡◌, ℕ, ◌+◌, ◌<◌, Bool, List, [], ◌∷◌, ◌++◌, length, take, get_or, cond, sym, ap, ◌∙◌, append_assoc}
use Rattle.std.proofs.lemmas.List.Elements.{filter-append, filter_more}
use Rattle.std.specs.List.{filter}

pub kept_more : {A : Type 0} (p : A → Bool) (o x y a b : List A) → x ≡ o ++ filter p a → y ≡ x ++ filter p b → y ≡ o ++ filter p (a ++ b)
kept_more {A} p o x y a b e f =
    f ∙ ap (λ (l : List A). l ++ filter p b) e ∙ append_assoc o (filter p a) (filter p b) ∙ ap (λ (l : List A). o ++ l) (sym (filter-append p a b))

pub kept_next : {A : Type 0} (p : A → Bool) (xs old new : List A) (i : ℕ) (x : A) → i < length xs → x ≡ get_or xs i x → old ≡ filter p (take i xs) → new ≡ old ++ cond (p x) (x ∷ []) [] → new ≡ filter p (take (i + 1) xs)
kept_next {A} p xs old new i x inside here so_far more =
    more ∙ ap (λ (l : List A). l ++ cond (p x) (x ∷ []) []) so_far ∙ ap (λ (y : A). filter p (take i xs) ++ cond (p y) (y ∷ []) []) here ∙ sym (filter_more p xs i x inside)
