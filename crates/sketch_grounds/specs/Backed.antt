-- Inner: no public clause cites this file.
-- Squares from which pawns go on.
use Rattle.std.specs.Prelude.{ℕ, Bool, cond, ◌||◌, List}
use Rattle.board_base.specs.Board.{is_in, opponent}
use Rattle.cage_rules.specs.Frozen.{is_behind}
use Rattle.cage_rules.specs.Steps.{is_ahead, is_near}
use Rattle.figures.specs.Figures.{Figure}
use Rattle.past_account.specs.Zones.{goes_on}

-- z is behind one of these squares, as the figure's pawn goes
abbrev pub is_from : Figure → List Bool → ℕ → Bool
is_from f from z = cond f.marked (is_near (is_ahead (opponent f.colour)) from z) (is_near (is_behind (opponent f.colour)) from z)

-- z is one of these squares, or the pawn goes on from there to one
abbrev pub is_backed : List Bool → Figure → List Bool → ℕ → Bool
is_backed wall f within z = is_in within z || is_near (goes_on wall f) within z
