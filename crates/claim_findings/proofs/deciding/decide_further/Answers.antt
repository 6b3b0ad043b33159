use Rattle.claim_findings.specs.declared.findings.Finding.TheVariants.{Proved}
use Rattle.claim_findings.proofs.Agreeing.{plainly}
use Rattle.claim_findings.proofs.Further.{proved_further}
use Rattle.claim_findings.proofs.deciding.decide_further.Goals as goal

pub returns-in-Some : goal.returns-in-Some
returns-in-Some c =
    let proof = proved_further c.args.subject.now.query c.args.claim.now c.args.subject.now.limits.depth c.args.subject.now.limits.nodes c.in-Some.depth c.args.decided.finding c.requires.decided.found (c.is_unsettled.ensures search) (rw c.in-Some.is at c.in_ok-depth.ensures) in
    plainly c.args.subject.now.query c.args.claim.now c.args.subject.now.limits.depth c.args.subject.now.limits.nodes c.args.games.now.found.items (Proved c.in-Some.depth) c.plainly.result c.plainly.ensures.finding c.plainly.ensures.stuck proof (λ e. cc) (λ e. cc)
