-- The last item of a list, by its index and in reverse.
use Rattle.std.proofs.Common.{◌≡◌, suc, ◌-◌, List, [], ◌∷◌, ◌++◌, length, reverse, refl, ap, ◌∙◌, arith}
use Rattle.std.proofs.lemmas.List.{reverse-append}
use Rattle.std.specs.Prelude.{Option, Some, None, slice_get}
use Rattle.std.specs.List.{last_or}

last_or-get : {A : Type 0} (o : Option A) (x : A) (xs : List A) → last_or o (x ∷ xs) ≡ slice_get (x ∷ xs) (length xs)
last_or-get o x [] = refl
last_or-get o x (y ∷ xs) = last_or-get (Some x) y xs

pub last-get : {A : Type 0} (xs : List A) → last_or None xs ≡ slice_get xs (length xs - 1)
last-get [] = refl
last-get (x ∷ xs) =
    let e : length xs ≡ suc (length xs) - 1 = omega arith in
    last_or-get None x xs ∙ ap (slice_get (x ∷ xs)) e

-- what is put behind a list stands before it in reverse
pub pushed : {A : Type 0} (old new : List A) (x : A) → new ≡ old ++ x ∷ [] → reverse new ≡ x ∷ reverse old
pushed {A} old new x grown = ap reverse grown ∙ reverse-append old (x ∷ [])
