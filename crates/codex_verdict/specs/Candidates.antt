-- Inner: no public clause cites this file.
-- The moves that may be captures en passant by a side, seen from their squares, in order.
use Rattle.std.specs.Prelude.{ℕ, ◌+◌, ◌-◌, cond, nat_lt, List, [], ◌∷◌, ◌++◌, None}
use Rattle.std.specs.List.{flat_map, range_with_len}
use Rattle.board_base.specs.declared.men.Colour.{Colour}
use Rattle.board_base.specs.declared.men.Colour.TheVariants.{White, Black}
use Rattle.board_base.specs.declared.moves.Move.{Move}

-- the first square of the rank from which a side captures en passant, and of the rank to which it does
abbrev pub first_origin : Colour → ℕ
first_origin White = 32
first_origin Black = 24

abbrev pub first_target : Colour → ℕ
first_target White = 40
first_target Black = 16

abbrev pub aside : ℕ → ℕ → Move
aside from to = record { from = from; to = to; promo = None }

-- the captures from the origin on this file, to the file before and to the file behind
abbrev pub captures_from : Colour → ℕ → List Move
captures_from side file =
    cond (nat_lt 0 file) (aside (first_origin side + file) (first_target side + file - 1) ∷ []) []
    ++ cond (nat_lt file 7) (aside (first_origin side + file) (first_target side + file + 1) ∷ []) []

unfoldable pub captures_of : Colour → List Move
captures_of side = flat_map (captures_from side) (range_with_len 0 8)
