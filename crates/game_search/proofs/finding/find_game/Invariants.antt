use Rattle.std.proofs.Common.{◌≤◌}
use Rattle.game_search.proofs.finding.find_game.Given as goal

abbrev pub invariant-loop-setting : goal.invariant-loop-setting
invariant-loop-setting l = l.left ≤ l.allowed
