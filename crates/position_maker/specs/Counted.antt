-- Inner: no public clause cites this file.
-- What a tally counts on the way.
use Rattle.std.specs.Prelude.{◌+◌, ◌≡◌, List, length}
use Rattle.std.specs.Fn.{iterate}
use Rattle.board_base.specs.declared.moves.Move.{Move}
use Rattle.position_maker.specs.Draws.{next}
use Rattle.position_maker.specs.Samples.{unmoves_along}
use Rattle.position_maker.specs.declared.tallies.Tally.{Tally}

-- a tally was carried on over these moves, which follow g
pub record Counts (g ms : List Move) (old new : Tally) : Type 0 where
  pub number : new.number ≡ iterate next (length ms) old.number
  pub plies : new.plies ≡ old.plies + length ms
  pub unmoves : new.unmoves ≡ old.unmoves + unmoves_along g ms
  pub missing : new.missing ≡ old.missing
