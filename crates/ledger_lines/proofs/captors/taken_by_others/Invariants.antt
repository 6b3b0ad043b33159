use Rattle.std.proofs.Common.{◌≡◌, ◌*◌, ◌≤◌, ℕ, cond}
use Rattle.std.specs.List.{range_with_len, sum_by}
use Rattle.ledger_lines.specs.Known.{is_other_pawn, least_taken}
use Rattle.ledger_lines.proofs.captors.taken_by_others.Given as goal

abbrev pub invariant-loop-i : goal.invariant-loop-i
invariant-loop-i l = record {
  number : l.sum ≡ sum_by (λ (t : ℕ). cond (is_other_pawn l.query l.side l.s t) (least_taken l.query l.ledger t) 0) (range_with_len 0 l.i);
  few : l.sum ≤ 7 * l.i;
}
