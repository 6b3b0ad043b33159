use Rattle.std.proofs.Common.{ℕ, ◌<◌}
use Rattle.ledger_told.specs.Due.{IsManLine}
use Rattle.ledger_told.proofs.squares.man_line.Given as goal

abbrev pub invariant-loop-i : goal.invariant-loop-i
invariant-loop-i l = (h : ℕ) → h < l.i → IsManLine l.query l.ledger l.side l.s h → ⊥
