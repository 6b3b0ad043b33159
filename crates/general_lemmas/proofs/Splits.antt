-- A list at one of its places.
use Rattle.std.proofs.Common.{◌≡◌, ◌<◌, ◌+◌, ℕ, List, [], ◌∷◌, ◌++◌, take, drop, length, get_or, ap, sym, ◌∙◌, take-append-drop, append_assoc}
use Rattle.std.proofs.lemmas.List.{take_more}

-- a list up to its element at i, with that element
pub up_to : {A : Type 0} (g : List A) (i : ℕ) (m : A) → i < length g → m ≡ get_or g i m → take (i + 1) g ≡ take i g ++ m ∷ []
up_to {A} g i m below e = take_more g i m below ∙ ap (λ (x : A). take i g ++ x ∷ []) (sym e)

-- what stands before an element, the element, and what follows it
pub split_at : {A : Type 0} (g : List A) (i : ℕ) (m : A) → i < length g → m ≡ get_or g i m → g ≡ take i g ++ m ∷ drop (i + 1) g
split_at {A} g i m below e = sym (take-append-drop (i + 1) g) ∙ ap (λ (x : List A). x ++ drop (i + 1) g) (up_to g i m below e) ∙ append_assoc (take i g) (m ∷ []) (drop (i + 1) g)
