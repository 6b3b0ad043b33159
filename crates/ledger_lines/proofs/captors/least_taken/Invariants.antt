use Rattle.std.proofs.Common.{◌≡◌, ◌+◌, ℕ}
use Rattle.ledger_lines.specs.Known.{has_taken}
use Rattle.ledger_lines.proofs.Counted.{count_first}
use Rattle.ledger_lines.proofs.captors.least_taken.Given as goal

abbrev pub invariant-loop-i : goal.invariant-loop-i
invariant-loop-i l = l.n ≡ count_first (λ (n : ℕ). has_taken l.query l.ledger l.s (n + 1)) l.i
