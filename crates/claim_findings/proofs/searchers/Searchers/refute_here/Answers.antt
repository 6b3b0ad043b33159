use Rattle.claim_findings.proofs.Searching.{refuted_here}
use Rattle.claim_findings.proofs.searchers.Searchers.refute_here.Goals as goal

pub returns-clause-refuted : goal.returns-clause-refuted
returns-clause-refuted c = refuted_here c.args.query.now c.args.limits.depth c.in_ok-outcome.outcome c.in_ok-outcome.ensures.refuted
