use Rattle.claim_findings.proofs.Searching.{outcome_is}
use Rattle.claim_findings.proofs.proving.search_at.Goals as goal

pub returns-in-Ok : goal.returns-in-Ok
returns-in-Ok c =
    outcome_is c.args.subject.now.query _ c.args.claim.now c.args.subject.now.limits.depth c.args.subject.now.limits.nodes c.in-Ok.outcome c.target.ensures.query c.target.ensures.contradicted c.in-Ok.ensures.refuted c.in-Ok.ensures.stays_open c.in-Ok.ensures.spent c.in-Ok.ensures.large c.in-Ok.ensures.priced c.in-Ok.ensures.sketched
