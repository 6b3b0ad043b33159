-- Lower bounds on the moves of a side, and on the length of a game.
use Rattle.std.specs.Prelude.{ℕ, ◌≤◌, ◌+◌, ◌-◌, ◌*◌, ◌/◌, max, Bool, cond, ◌||◌, List, map, length, Option, Some, None, ℤ, pos, negsuc, ◌+ℤ◌}
use Rattle.std.specs.List.{sum_by, range_with_len}
use Rattle.board_base.specs.Board.{Places, at, same_colour, men_squares, home_of}
use Rattle.board_base.specs.Rights.{Rights, holds}
use Rattle.board_base.specs.declared.men.Colour.{Colour}
use Rattle.board_base.specs.declared.men.Colour.TheVariants.{White, Black}
use Rattle.board_base.specs.declared.men.Man.{Man}
use Rattle.board_base.specs.declared.castles.Castle.TheVariants.{WhiteShort, WhiteLong, BlackShort, BlackLong}
use Rattle.men_account.specs.Labels.{Labels, label_at}
use Rattle.assignment.specs.Assignments.{IsBounded, total}
use Rattle.length_bound.specs.MoveCosts.{move_cost}

-- Article 1.2: how many of the first n moves of a game this side makes
abbrev pub moves_of : Colour → ℕ → ℕ
moves_of White n = (n + 1) / 2
moves_of Black n = n / 2

-- what the man of this side on this place of s, with this label, needed to come there; 0 if no man of the side stands
abbrev pub man_cost : List Bool → Colour → Option Man → Option ℕ → ℕ → ℕ
man_cost o c None label s = 0
man_cost o c (Some man) None s = 0
man_cost o c (Some man) (Some l) s = cond (same_colour c man.colour) (move_cost o man s l) 0

-- what the men of a side needed in all, each from his label
unfoldable pub side_cost : List Bool → Colour → Places → Labels → ℕ
side_cost o c board labels = sum_by (λ s. man_cost o c (at board s) (label_at labels s) s) (range_with_len 0 64)

-- what the man on this place of s needed from h
abbrev pub place_cost : List Bool → Option Man → ℕ → ℕ → ℕ
place_cost o None s h = 64
place_cost o (Some man) s h = move_cost o man s h

-- what the man on this place of s needed from each of a side's sixteen homes
abbrev pub man_row : List Bool → Colour → Option Man → ℕ → List ℕ
man_row o c place s = map (λ j. place_cost o place s (home_of c j)) (range_with_len 0 16)

-- what each man of a side needed from each of its homes: a row for each, in ascending order of their squares
unfoldable pub move_costs : List Bool → Colour → Places → List (List ℕ)
move_costs o c board = map (λ s. man_row o c (at board s) s) (men_squares c board)

-- at most sixteen men, and potentials that their costs bound
pub record IsSideBound (o : List Bool) (c : Colour) (board : Places) (u v : List ℤ) : Type 0 where
  pub sixteen : length u ≤ 16
  pub bounded : IsBounded 16 (move_costs o c board) u v

-- the number, or 0 if it is below 0
abbrev pub at_least_0 : ℤ → ℕ
at_least_0 (pos n) = n
at_least_0 (negsuc n) = 0

-- a castling of this side is in the set
abbrev pub holds_some : Colour → Rights → Bool
holds_some White held = holds held WhiteShort || holds held WhiteLong
holds_some Black held = holds held BlackShort || holds held BlackLong

-- The moves that potentials show a side to have made: their sum, less two where the side may have castled, for by a castling two men go
-- three steps in one move.
abbrev pub moves_shown : Colour → Rights → List ℤ → List ℤ → ℕ
moves_shown c held u v = at_least_0 (total u +ℤ total v) - cond (holds_some c held) 0 2

-- the least length of a game in which the first side makes at least so many moves, and after which it is the second side's turn
abbrev pub length_with : Colour → Colour → ℕ → ℕ
length_with White White k = 2 * k
length_with White Black k = 2 * max k 1 - 1
length_with Black White k = 2 * k
length_with Black Black k = 2 * k + 1
