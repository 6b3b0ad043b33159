use Rattle.claim_findings.specs.Findings.{IsProvedAt}
use Rattle.claim_findings.proofs.proving.least_depth.Given as goal

abbrev pub invariant-loop-least : goal.invariant-loop-least
invariant-loop-least l = IsProvedAt l.subject.query l.claim l.subject.limits.depth l.least

abbrev pub decreases-loop-least : goal.decreases-loop-least
decreases-loop-least l = l.least
