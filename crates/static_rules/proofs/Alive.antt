-- Homes on which their men stand aren't dead.
use Rattle.std.proofs.Common.{◌≡◌, ℕ, ◌<◌, Bool, true, false, cond, ◌&&◌, ◌||◌, not, List, refl, sym, ap, ◌∙◌, subst}
use Rattle.std.specs.Prelude.{Option, None, Some}
use Rattle.std.proofs.lemmas.Bool.{and_from, both_ways, false_from_ne_true, not-true}
use Rattle.board_base.specs.Board.{Places, array_of, at, initial_array, is_a, is_empty, is_in, is_like}
use Rattle.board_base.specs.declared.men.Kind.TheVariants.{Knight, Bishop, Rook, Queen}
use Rattle.board_base.specs.declared.men.Man.{Man}
use Rattle.board_base.proofs.KindsOfMen.{same_colour-self, same_kind-self}
use Rattle.board_base.proofs.Without.{at-without}
use Rattle.board_base.proofs.Equal.{place_is}
use Rattle.cage_rules.specs.Regions.{beginner, is_dead, is_officer_home, region}
use Rattle.cage_rules.proofs.Beginners.{officer-inside}
use Rattle.cage_rules.proofs.Regions.{region-home}
use Rattle.cage_rules.proofs.Tested.{at_board}
use Rattle.static_rules.specs.Left.{has_stayed}

-- a man is like himself
like-self : (place : Option Man) → (is_a Knight place || is_a Bishop place || is_a Rook place || is_a Queen place) ≡ true → is_like place place ≡ true
like-self None h = absurd (both_ways false refl h)
like-self (Some m) h = and_from _ _ (same_colour-self m.colour) (same_kind-self m.kind)

kept-full : (b : Bool) (place : Option Man) → is_empty (cond b None place) ≡ false → cond b None place ≡ place
kept-full true place full = absurd (both_ways true full refl)
kept-full false place full = refl

-- who isn't left out begins where he begins in the whole array
begins-there : (o : List Bool) (h : ℕ) → is_empty (at (array_of o) h) ≡ false → at (array_of o) h ≡ beginner h
unfolding array_of beginner
begins-there o h full = at-without o initial_array h ∙ kept-full (is_in o h) (at initial_array h) (sym (ap is_empty (at-without o initial_array h)) ∙ full)

stayed-there : (o : List Bool) (board : Places) (h : ℕ) → is_empty (at (array_of o) h) ≡ false → has_stayed (array_of o) board h ≡ true → at board h ≡ beginner h
stayed-there o board h full stayed = place_is _ _ stayed ∙ begins-there o h full

-- a home is alive on which its man stands
pub alive-at-home : (o : List Bool) (board : Places) (set : List Bool) (h : ℕ) → is_officer_home h ≡ true → is_empty (at (array_of o) h) ≡ false → has_stayed (array_of o) board h ≡ true → is_dead board set h ≡ false
unfolding is_dead
alive-at-home o board set h home full stayed =
    let inside : h < 64 = officer-inside h home in
    false_from_ne_true _ (λ dead.
    both_ways _ (not-true _ (at_board (λ t. not (is_in (region set h) t && is_like (beginner h) (at board t))) h dead inside))
    (and_from _ _ (region-home set (beginner h) h inside) (subst (λ (p : Option Man). is_like (beginner h) p ≡ true) (sym (stayed-there o board h full stayed)) (like-self (beginner h) home))))
