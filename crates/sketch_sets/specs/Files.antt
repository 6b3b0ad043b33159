-- Pawns on their files: names for what the laws ask of them.
use Rattle.std.specs.Prelude.{ℕ, Bool}
use Rattle.std.specs.List.{list_all}
use Rattle.board_base.specs.Board.{file}
use Rattle.board_base.specs.declared.men.Colour.{Colour}
use Rattle.figures.specs.Closed.{goes_straight}
use Rattle.figures.specs.Figures.{Figure, Sketch}
use Rattle.figures.specs.FileOrder.{is_pawn_on, leaves_room, stands_above, stands_below}

-- the figure is a pawn on the file of e; it may stand on a lower rank, on a higher one
unfoldable pub is_beside : ℕ → Figure → Bool
is_beside e g = is_pawn_on (file e) g

unfoldable pub is_below : ℕ → Figure → Bool
is_below e g = stands_below e g

unfoldable pub is_above : ℕ → Figure → Bool
is_above e g = stands_above e g

-- the second figure leaves the first room on e, and all figures do
unfoldable pub gives_room : Figure → ℕ → Figure → Bool
gives_room f e g = leaves_room f e g

abbrev pub has_all_room : Sketch → Figure → ℕ → Bool
has_all_room T f e = list_all (gives_room f e) T

-- a pawn goes straight on, one square, or two from where pawns begin
unfoldable pub straight : Colour → ℕ → ℕ → Bool
straight c e s = goes_straight c e s
