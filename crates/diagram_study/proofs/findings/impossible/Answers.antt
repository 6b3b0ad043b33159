use Rattle.std.proofs.Common.{subst}
use Rattle.query_base.specs.Asked.{Asked}
use Rattle.query_base.specs.declared.claims.Claim.TheVariants.{Illegal}
use Rattle.claim_findings.specs.Findings.{IsFound}
use Rattle.diagram_study.proofs.findings.impossible.Goals as goal

pub returns-clause-found : goal.returns-clause-found
returns-clause-found c = (
  c.requires.found,
  c.requires.proved,
  subst (λ (r : Asked). IsFound r Illegal c.args.subject.now.limits.depth c.args.subject.now.limits.nodes c.in_ok-decided.decided.finding) c.other_side-query.ensures c.in_ok-decided.ensures.decided.found,
)
