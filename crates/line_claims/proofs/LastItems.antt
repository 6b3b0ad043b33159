-- Lists that end with one item each.
use Rattle.std.proofs.Common.{◌≡◌, List, [], ◌∷◌, ◌++◌, sym, ap, ◌∙◌}
use Rattle.std.proofs.lemmas.List.{append_cancel_right, reverse-append}
use Rattle.std.specs.Prelude.{reverse}
use Rattle.general_lemmas.proofs.Lists.{same_first}

pub same_end : {A : Type 0} (xs ys : List A) (x y : A) → xs ++ x ∷ [] ≡ ys ++ y ∷ [] → x ≡ y
same_end {A} xs ys x y e = same_first (sym (reverse-append xs (x ∷ [])) ∙ ap reverse e ∙ reverse-append ys (y ∷ []))

pub same_front : {A : Type 0} (xs ys : List A) (x y : A) → xs ++ x ∷ [] ≡ ys ++ y ∷ [] → xs ≡ ys
same_front {A} xs ys x y e = append_cancel_right xs ys (y ∷ []) (ap (λ (z : A). xs ++ z ∷ []) (sym (same_end xs ys x y e)) ∙ e)
