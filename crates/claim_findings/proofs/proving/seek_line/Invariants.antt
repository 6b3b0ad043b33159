use Rattle.std.proofs.Common.{◌≡◌, length}
use Rattle.std.specs.Prelude.{None}
use Rattle.std.specs.List.{All}
use Rattle.line_claims.specs.Due.{parts_due}
use Rattle.claim_findings.proofs.Together.{Completes}
use Rattle.claim_findings.proofs.proving.seek_line.Given as goal

abbrev pub invariant-loop-claimed : goal.invariant-loop-claimed
invariant-loop-claimed l = record {
  plain : All (λ part. part.1.barred ≡ None) l.due;
  complete : Completes l.subject.limits.depth l.subject.limits.nodes (parts_due l.claim l.subject.query) l.due l.finding;
}

abbrev pub decreases-loop-claimed : goal.decreases-loop-claimed
decreases-loop-claimed l = length l.due
