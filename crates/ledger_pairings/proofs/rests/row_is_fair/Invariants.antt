use Rattle.std.proofs.Common.{◌+◌, ◌<◌, ◌≤◌, ℕ, slice_index}
use Rattle.ledger_pairings.proofs.rests.row_is_fair.Given as goal

abbrev pub invariant-loop-c : goal.invariant-loop-c
invariant-loop-c l = (c : ℕ) → c < l.c → l.due ≤ slice_index l.row c + slice_index l.prices c
