-- The eight directions from a square, and the squares along them.
use Rattle.std.specs.Prelude.{ℕ, ◌+◌, ◌-◌, ◌*◌, ◌<◌, ◌≤◌}
use Rattle.board_base.specs.Board.{file, rank}
use Rattle.board_base.specs.declared.lines.Change.{Change}
use Rattle.board_base.specs.declared.lines.Change.TheVariants.{Falls, Stays, Rises}
use Rattle.board_base.specs.declared.lines.Direction.{Direction}

-- a rank or a file k steps on
abbrev pub changed : Change → ℕ → ℕ → ℕ
changed Falls a k = a - k
changed Stays a k = a
changed Rises a k = a + k

-- k steps on is off the board
abbrev pub IsOff : Change → ℕ → ℕ → Type 0
IsOff Falls a k = a < k
IsOff Stays a k = ⊥
IsOff Rises a k = 8 ≤ a + k

-- the square k steps from s in a direction
abbrev pub along : Direction → ℕ → ℕ → ℕ
along d s k = 8 * changed d.ranks (rank s) k + changed d.files (file s) k
