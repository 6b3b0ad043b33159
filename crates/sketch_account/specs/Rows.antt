-- Inner: no public clause cites this file.
-- What is told of a figure before his row of costs is counted.
use Rattle.std.specs.Prelude.{ℕ, ◌≡◌, ◌<◌, Bool, true, false, List}
use Rattle.board_base.specs.Board.{is_in}
use Rattle.board_base.specs.declared.men.Colour.{Colour}
use Rattle.figures.specs.Figures.{Figure}
use Rattle.sketch_grounds.specs.Account.{Counted}
use Rattle.sketch_grounds.specs.Limits.{Limit, allows}
use Rattle.sketch_grounds.specs.Zones.{Room}
use Rattle.sketch_account.specs.Coming.{is_free, is_goal}
use Rattle.sketch_account.specs.declared.rows.Comer.{Comer}
use Rattle.sketch_account.specs.declared.rows.Manner.{Manner}

-- this is the figure with what is known of how its man came
abbrev pub counted : Figure → Limit → Counted
counted f l = record { figure = f; limit = l }

-- the manner is the limit's
pub record IsManner (l : Limit) (m : Manner) : Type 0 where
  pub plain : m.plain ≡ allows l true
  pub other : m.other ≡ allows l false

-- a figure of this colour, with this limit, beside the wall
pub record IsComer (R : Room) (c : Colour) (wall : List Bool) (l : Limit) (x : Comer) : Type 0 where
  pub colour : x.figure.colour ≡ c
  pub manner : IsManner l x.manner
  pub free : (s : ℕ) → s < 64 → is_in x.free s ≡ is_free wall x.figure s
  pub goals : (e : ℕ) → e < 64 → is_in x.goals e ≡ is_goal R c wall x.figure e
