-- Inner: no public clause cites this file.
-- The squares on the lines through a square.
use Rattle.std.specs.Prelude.{ℕ, ◌≡◌, ◌≢◌, true, cond, ◌||◌, nat_lt}
use Rattle.board_base.specs.Board.{file, rank}
use Rattle.board_base.specs.Attacks.{on_one_line, on_one_diagonal}
use Rattle.board_base.specs.declared.lines.Change.{Change}
use Rattle.board_base.specs.declared.lines.Change.TheVariants.{Falls, Stays, Rises}
use Rattle.board_base.specs.declared.lines.Direction.{Direction}

-- how a rank or a file changes from one number to another
abbrev pub change : ℕ → ℕ → Change
change a b = cond (nat_lt a b) Rises (cond (nat_lt b a) Falls Stays)

-- t stands on a line through s, in this direction from it
pub record LiesAlong (d : Direction) (s t : ℕ) : Type 0 where
  pub ranks : change (rank s) (rank t) ≡ d.ranks
  pub files : change (file s) (file t) ≡ d.files
  pub line : (on_one_line s t || on_one_diagonal s t) ≡ true
  pub apart : s ≢ t
