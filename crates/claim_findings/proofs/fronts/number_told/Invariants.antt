use Rattle.claim_findings.proofs.OpenFronts.{CutSoFar}
use Rattle.claim_findings.proofs.fronts.number_told.Given as goal

abbrev pub invariant-loop-i : goal.invariant-loop-i
invariant-loop-i l = CutSoFar l.query l.line l.i l.number l.here
