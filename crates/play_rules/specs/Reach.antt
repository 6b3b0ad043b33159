-- Sets of squares that men may reach, one within another.
use Rattle.std.specs.Prelude.{ℕ, ◌≡◌, Bool, true, List}
use Rattle.board_base.specs.Board.{is_in}

-- what one set of squares has, the other has too
abbrev pub IsWithin : List Bool → List Bool → Type 0
IsWithin inner outer = (t : ℕ) → is_in inner t ≡ true → is_in outer t ≡ true
