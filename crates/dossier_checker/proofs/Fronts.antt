-- Two fronts of a list.
use Rattle.std.proofs.Common.{◌≡◌, ◌≤◌, List, [], ◌∷◌, ◌++◌, length, refl, ap, ◌∙◌, arith}
use Rattle.general_lemmas.proofs.Lists.{same_first, same_rest}

-- the shorter of two fronts is a front of the other
pub front_of : {A : Type 0} (head rest front more : List A) → front ++ more ≡ head ++ rest → length head ≤ length front → (t : List A) × (front ≡ head ++ t)
front_of [] rest front more e shorter = (front, refl)
front_of (x ∷ head) rest [] more e shorter = absurd (omega arith)
front_of (x ∷ head) rest (y ∷ front) more e shorter =
    let r = front_of head rest front more (same_rest e) (omega arith) in
    (r.0, ap (λ z. z ∷ front) (same_first e) ∙ ap (λ l. x ∷ l) r.1)
