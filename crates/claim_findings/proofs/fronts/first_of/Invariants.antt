use Rattle.std.proofs.Common.{◌≡◌, take}
use Rattle.claim_findings.proofs.fronts.first_of.Given as goal

abbrev pub invariant-loop-i : goal.invariant-loop-i
invariant-loop-i l = l.front ≡ take l.i l.line
