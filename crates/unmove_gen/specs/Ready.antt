-- Inner: no public clause cites this file.
-- Of the candidates of a move which are listed, and the squares to which moves are tried.
use Rattle.std.specs.Prelude.{ℕ, ◌≡◌, ◌<◌, Bool, true, false, List, Some, slice_get}
use Rattle.board_base.specs.Board.{is_in}
use Rattle.board_base.specs.declared.unmoves.Unmove.{Unmove}
use Rattle.query_base.specs.Asked.{Asked}
use Rattle.unmove_gen.specs.Listed.{candidates, is_listed}
use Rattle.unmove_gen.specs.Numbers.{number_at}
use Rattle.unmove_gen.specs.declared.candidates.Cursor.{Cursor}

-- for each of the seven candidates of the move of this one the list has whether it is listed
abbrev pub AreReady : Asked → Cursor → List Bool → Type 0
AreReady q p listed = p.to < 64 → (r : ℕ) (u : Unmove) → r < 7 → slice_get candidates (number_at p.to p.from p.promotion r) ≡ Some u → slice_get listed r ≡ Some (is_listed q u)

-- no listed unmove goes to the square
abbrev pub IsNoTarget : Asked → ℕ → Type 0
IsNoTarget q t = (u : Unmove) → is_listed q u ≡ true → u.mv.to ≡ t → ⊥

-- none goes to a square outside the set
abbrev pub AreTargets : Asked → List Bool → Type 0
AreTargets q set = (t : ℕ) → t < 64 → is_in set t ≡ false → IsNoTarget q t
