use Rattle.std.proofs.Common.{◌≡◌, ◌-◌, ℕ, not}
use Rattle.std.specs.List.{list_all, range_with_len}
use Rattle.ledger_lines.specs.Known.{is_far, is_nearer}
use Rattle.ledger_lines.proofs.captors.is_far.Given as goal

abbrev pub invariant-loop-i : goal.invariant-loop-i
invariant-loop-i l = list_all (λ (h : ℕ). not (is_nearer l.query l.ledger l.s l.number h)) (range_with_len l.i (64 - l.i)) ≡ is_far l.query l.ledger l.s l.number
