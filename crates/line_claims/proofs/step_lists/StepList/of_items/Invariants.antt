use Rattle.std.proofs.Common.{◌≡◌, ◌+◌, take}
use Rattle.line_claims.proofs.step_lists.StepList.of_items.Given as goal

abbrev pub invariant-loop-step : goal.invariant-loop-step
invariant-loop-step l = l.list ≡ take (l.step-index + 1) l.items
