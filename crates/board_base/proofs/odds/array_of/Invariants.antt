use Rattle.board_base.proofs.LeftOut.{LeftOut}
use Rattle.board_base.proofs.odds.array_of.Given as goal

abbrev pub invariant-loop-i : goal.invariant-loop-i
invariant-loop-i l = LeftOut l.set l.board l.i
