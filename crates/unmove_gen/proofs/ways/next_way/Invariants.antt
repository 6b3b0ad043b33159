use Rattle.std.proofs.Common.{ℕ, ◌-◌, ◌<◌, ◌≤◌}
use Rattle.std.specs.Prelude.{Some}
use Rattle.unmove_gen.specs.Ways.{IsNoWay}
use Rattle.unmove_gen.proofs.ways.next_way.Given as goal

abbrev pub invariant-loop-s : goal.invariant-loop-s
invariant-loop-s l = record {
  high : l.fn.start ≤ l.s;
  low : l.s ≤ 64;
  none : (k : ℕ) → l.fn.start ≤ k → k < l.s → IsNoWay l.board (Some l.fn.man) l.fn.to k;
}

abbrev pub decreases-loop-s : goal.decreases-loop-s
decreases-loop-s l = 64 - l.s
