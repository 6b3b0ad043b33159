use Rattle.std.proofs.Common.{◌+◌, ◌<◌, ◌≤◌, ℕ, slice_index}
use Rattle.assignment.specs.Tables.{cost_at}
use Rattle.ledger_pairings.proofs.rests.are_fair.Given as goal

abbrev pub invariant-loop-r : goal.invariant-loop-r
invariant-loop-r l = (r c : ℕ) → r < l.r → c < 16 → slice_index l.dues r ≤ cost_at l.rows r c + slice_index l.prices c
