use Rattle.std.proofs.Common.{◌≡◌}
use Rattle.men_account.proofs.BySquares.{counts_among}
use Rattle.men_account.proofs.sums.counts.Given as goal

abbrev pub invariant-loop-i : goal.invariant-loop-i
invariant-loop-i l = record {
  so_far : l.total ≡ counts_among l.side l.board l.i;
}
