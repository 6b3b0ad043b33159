use Rattle.std.proofs.Common.{ℕ, List, length, ap, arith}
use Rattle.first_pairing.proofs.Endings.{barred-bound}
use Rattle.first_pairing.proofs.rest.rest_cost.Goals as goal

pub returns : goal.returns
returns c = record {
  bound = barred-bound 16 c.args.costs.now c.barred-rows.result.items c.args.left c.args.columns.now.items _ c.requires.left c.barred-rows.ensures.size c.barred-rows.ensures.same (rw c.as_slice.ensures.value at c.solve_large.ensures.least);
  small =
      let cost = c.solve_large.ensures.small 32767 (rw c.as_slice.ensures.value c.barred-rows.ensures.table) in
      let rows = ap (λ (l : List (List ℕ)). length l) c.as_slice.ensures.value in
      omega (arith, cost, rows, c.barred-rows.ensures.size, c.barred-rows.ensures.table.rows);
}
