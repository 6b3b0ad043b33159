use Rattle.std.proofs.Common.{◌≡◌}
use Rattle.men_account.proofs.SideMen.{count_first}
use Rattle.men_account.proofs.side_men.men_of.Given as goal

abbrev pub invariant-loop-i : goal.invariant-loop-i
invariant-loop-i l = l.n ≡ count_first l.side l.board l.i
