use Rattle.std.proofs.Common.{◌≡◌, take}
use Rattle.position_report.proofs.replaying.moves_of.Given as goal

abbrev pub invariant-loop-i : goal.invariant-loop-i
invariant-loop-i l = l.moves.items ≡ take l.i l.game
