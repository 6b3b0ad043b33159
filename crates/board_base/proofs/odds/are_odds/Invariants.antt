use Rattle.std.proofs.Common.{ℕ, ◌<◌, true, ◌≡◌}
use Rattle.board_base.specs.Board.{is_in, may_lack}
use Rattle.board_base.proofs.odds.are_odds.Given as goal

abbrev pub invariant-loop-i : goal.invariant-loop-i
invariant-loop-i l = (s : ℕ) → s < l.i → is_in l.set s ≡ true → may_lack s ≡ true
