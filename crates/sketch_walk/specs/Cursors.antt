-- Inner: no public clause cites this file.
-- Places on a walk over all ways of all figures.
use Rattle.std.specs.Prelude.{ℕ, ◌+◌, ◌*◌, ◌<◌}
use Rattle.sketch_walk.specs.declared.cursors.Cursor.{Cursor}

-- he is on one of 64 squares, came from one of four origins, took one of five victims, and at most 32 are above
pub record IsInside (c : Cursor) : Type 0 where
  pub to : c.to < 64
  pub way : c.way < 4
  pub victim : c.victim < 5
  pub above : c.above < 33

-- the number of the place
abbrev pub number_of : Cursor → ℕ
number_of c = 42240 * c.by + 660 * c.to + 165 * c.way + 33 * c.victim + c.above
