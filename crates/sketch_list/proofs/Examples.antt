-- Examples of listed steps, small enough to compute. Squares are numbers, a1 is 0 and h8 is 63.
use Rattle.std.proofs.Common.{◌≡◌, ℕ, Bool, ◌||◌, ◌==◌, not, true, false, List, [], ◌∷◌, map, refl}
use Rattle.board_base.specs.Board.{array_of, initial_array}
use Rattle.board_base.specs.declared.men.Colour.{Colour}
use Rattle.board_base.specs.declared.men.Colour.TheVariants.{White, Black}
use Rattle.board_base.specs.declared.men.Kind.{Kind}
use Rattle.board_base.specs.declared.men.Kind.TheVariants.{Pawn, Knight, Rook, Queen, King}
use Rattle.past_account.specs.Sets.{squares_that}
use Rattle.past_account.specs.Figures.{Figure, Sketch, only_on}
use Rattle.sketch_list.specs.Listed.{Listed, count_from, figures_before, is_advance, is_from, is_on_file, is_short, is_under, may_be_above, next_above, origins, place_before, step_for, victims_as}
use Rattle.sketch_list.specs.declared.steps.Victim.TheVariants.{Nobody, TakenOther, PassedPawn}

fixed : Colour → Kind → ℕ → ℕ → Figure
fixed c k s n = record { colour = c; kinds = k ∷ []; squares = only_on s; marked = false; place = n }

-- White's pawn on c3, and two pawns on file b, on b5 and b7
three : Sketch
three = fixed White Pawn 18 0 ∷ fixed White Pawn 33 0 ∷ fixed Black Pawn 49 1 ∷ []

-- it took somebody on c3, coming from b2, below both others
from_b2 : Listed
from_b2 = record { by = 0; from = 9; to = 18; victim = TakenOther; above = 2 }

-- from place 0 on there are two, from place 1 on one
counts : (count_from three 1 0 ≡ 2) × (count_from three 1 1 ≡ 1) × (count_from three 0 0 ≡ 0)
unfolding three fixed squares_that count_from is_from is_on_file
counts = (refl, refl, refl)

-- with two above him his place is the lowest, with one above it the next, and with none a higher one
places : (place_before three (fixed White Pawn 18 0) from_b2 ≡ 0) × (place_before three (fixed White Pawn 18 0) (record from_b2 { above = 1 }) ≡ 1) × (place_before three (fixed White Pawn 18 0) (record from_b2 { above = 0 }) ≡ 2)
unfolding three fixed from_b2 squares_that count_from is_from is_on_file is_under next_above place_before is_advance
places = (refl, refl, refl)

-- three can't have been above him
counted : (may_be_above three (fixed White Pawn 18 0) from_b2 ≡ true) × (may_be_above three (fixed White Pawn 18 0) (record from_b2 { above = 3 }) ≡ false)
unfolding three fixed from_b2 squares_that count_from is_from is_on_file may_be_above is_advance
counted = (refl, refl)

-- who goes straight on, and is still a pawn, keeps his place, and nobody is counted
straight : Listed
straight = record { by = 0; from = 10; to = 18; victim = Nobody; above = 0 }

advances : (is_advance (fixed White Pawn 18 0) straight ≡ true) × (is_advance (fixed White Pawn 18 0) from_b2 ≡ false) × (is_advance (fixed White Queen 58 0) (record straight { from = 50; to = 58 }) ≡ false)
unfolding straight from_b2 fixed is_advance
advances = (refl, refl, refl)

kept : (place_before three (fixed White Pawn 18 4) straight ≡ 4) × (may_be_above three (fixed White Pawn 18 4) (record straight { above = 1 }) ≡ false)
unfolding straight fixed place_before may_be_above is_advance
kept = (refl, refl)

-- whom he took is a knight, a rook or a queen on c3; en passant it is a pawn ahead of the target
taken : (map (λ f. f.kinds) (victims_as (fixed White Pawn 18 0) 18 TakenOther) ≡ (Knight ∷ Rook ∷ Queen ∷ []) ∷ []) × (map (λ f. f.squares) (victims_as (fixed White Pawn 43 0) 43 PassedPawn) ≡ only_on 51 ∷ []) × (victims_as (fixed White Pawn 18 0) 18 Nobody ≡ [])
unfolding fixed
taken = (refl, refl, refl)

-- he is the last figure before the step
last : map (λ f. f.kinds) (figures_before three (fixed White Pawn 18 0) from_b2) ≡ (Pawn ∷ []) ∷ (Pawn ∷ []) ∷ (Pawn ∷ []) ∷ (Knight ∷ Rook ∷ Queen ∷ []) ∷ []
unfolding figures_before three fixed from_b2 step_for
last = refl

-- to c3 White's pawn comes from c2, c1, b2 or d2, and to f6 Black's from f7, f8, e7 or g7
ways : (origins White 18 ≡ 10 ∷ 2 ∷ 9 ∷ 11 ∷ []) × (origins Black 45 ≡ 53 ∷ 61 ∷ 52 ∷ 54 ∷ [])
ways = (refl, refl)

-- where the array has two kings alone, nobody can have been taken from the sketch of both, but Black's king from the other's
kings_alone : List Bool
kings_alone = squares_that (λ s. not ((s == 4) || (s == 60)))

shortness : (is_short kings_alone (fixed White King 4 0 ∷ fixed Black King 60 0 ∷ []) Black ≡ false) × (is_short kings_alone (fixed White King 4 0 ∷ []) Black ≡ true)
unfolding kings_alone fixed is_short squares_that array_of initial_array
shortness = (refl, refl)
