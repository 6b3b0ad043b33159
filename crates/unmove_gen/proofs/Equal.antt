-- Equal boards.
use Rattle.std.proofs.Common.{◌≡◌, true, [], ◌∷◌, refl, ap, ◌∙◌}
use Rattle.std.proofs.lemmas.Bool.{and_parts, and_from}
use Rattle.std.specs.Prelude.{Option}
use Rattle.board_base.specs.Board.{Places}
use Rattle.board_base.specs.declared.men.Man.{Man}
use Rattle.board_base.proofs.Equal.{place_is, place_self}
use Rattle.unmove_gen.specs.Listed.{same_places}

pub places_are : (a b : Places) → same_places a b ≡ true → a ≡ b
unfolding same_places
places_are [] [] h = refl
places_are [] (y ∷ ys) h = cc
places_are (x ∷ xs) [] h = cc
places_are (x ∷ xs) (y ∷ ys) h =
    let parts = and_parts _ _ h in
    ap (λ (z : Option Man). z ∷ xs) (place_is x y parts.0) ∙ ap (λ (l : Places). y ∷ l) (places_are xs ys parts.1)

pub places_self : (a : Places) → same_places a a ≡ true
unfolding same_places
places_self [] = refl
places_self (x ∷ xs) = and_from _ _ (place_self x) (places_self xs)
