use Rattle.std.proofs.Common.{◌≡◌, take}
use Rattle.position_report.proofs.unsettled.steps_of.Given as goal

abbrev pub invariant-loop-i : goal.invariant-loop-i
invariant-loop-i l = l.steps.items ≡ take l.i l.front
