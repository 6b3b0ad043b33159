-- The side whose men show a query's games to be longer.
use Rattle.std.specs.Prelude.{ℕ, ◌≡◌, ◌-◌, cond, nat_le, nat_lt, length, Option, Some, None, pos, ◌+ℤ◌}
use Rattle.board_base.specs.declared.men.Colour.{Colour}
use Rattle.board_base.specs.declared.men.Colour.TheVariants.{White, Black}
use Rattle.board_base.specs.Board.{men_squares}
use Rattle.assignment.specs.Assignments.{least_cost, total}
use Rattle.query_base.specs.Asked.{Asked}
use Rattle.length_bound.specs.SideBounds.{IsSideBound, holds_some, length_with, move_costs}
use Rattle.length_bound.specs.declared.texts.LengthText.{LengthText}

-- the length that potentials with the greatest sum show, that of the least cost; None where the side has more than sixteen men
unfoldable pub side_length : Colour → Asked → Option ℕ
side_length c q =
    cond (nat_le (length (men_squares c q.board)) 16) (Some (length_with c q.turn (least_cost 16 (move_costs q.odds c q.board) - cond (holds_some c q.held) 0 2))) None

-- the side of the greater of these lengths, White's and Black's, and White where they are equal
abbrev pub longer_side : Option ℕ → Option ℕ → Option Colour
longer_side None None = None
longer_side (Some white) None = Some White
longer_side None (Some black) = Some Black
longer_side (Some white) (Some black) = Some (cond (nat_lt white black) Black White)

-- the text says of the query the length that potentials of its side with the greatest sum show, with such potentials
pub record IsBest (q : Asked) (text : LengthText) : Type 0 where
  pub query : text.query ≡ q
  pub bound : IsSideBound q.odds text.side q.board text.potentials.u text.potentials.v
  pub greatest : (total text.potentials.u +ℤ total text.potentials.v) ≡ pos (least_cost 16 (move_costs q.odds text.side q.board))
  pub at_least : side_length text.side q ≡ Some text.at_least
