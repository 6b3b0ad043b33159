use Rattle.std.proofs.Common.{[]}
use Rattle.query_base.specs.Targets.{target}
use Rattle.claim_findings.proofs.proving.seek.Goals as goal

pub returns-in-Open-clause-found : goal.returns-in-Open-clause-found
returns-in-Open-clause-found c =
    let unrefuted = rw c.in-Open.is at c.in_ok-outcome.ensures in
    (λ k small refutable. unrefuted.0 (c.deeper_searches_refute_more.ensures.refutable (target c.args.subject.now.query c.args.claim.now) k c.args.subject.now.limits.depth [] small refutable), unrefuted.1)
