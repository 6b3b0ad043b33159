use Rattle.std.proofs.Common.{◌-◌, arith}
use Rattle.claim_findings.proofs.Searching.{least_by_none, least_by_open, least_by_spent, raised}
use Rattle.claim_findings.proofs.proving.least_depth.Goals as goal

pub loop-least-preserved : goal.loop-least-preserved
loop-least-preserved c =
    let proved = rw c.in-Refuted.is at c.in_ok-outcome.ensures in
    raised c.args.subject.now.query c.args.claim.now (c.loop-least.least - 1) c.args.subject.now.limits.depth c.in-Refuted.height (omega (arith, c.loop-least.invariant.proof.low)) proved

pub loop-least-smaller : goal.loop-least-smaller
loop-least-smaller c =
    let proved = rw c.in-Refuted.is at c.in_ok-outcome.ensures in
    omega (arith, proved.proof.low)

pub returns-in-Open : goal.returns-in-Open
returns-in-Open c =
    least_by_open c.deeper_searches_refute_more.ensures.refutable c.args.subject.now.query c.args.claim.now c.args.subject.now.limits.depth c.args.subject.now.limits.nodes c.loop-least.least c.loop-least.invariant (rw c.in-Open.is at c.in_ok-outcome.ensures).0 (rw c.in-Open.is at c.in_ok-outcome.ensures).1

pub returns-in-Spent : goal.returns-in-Spent
returns-in-Spent c =
    least_by_spent c.args.subject.now.query c.args.claim.now c.args.subject.now.limits.depth c.args.subject.now.limits.nodes c.loop-least.least c.loop-least.invariant (rw c.in-Spent.is at c.in_ok-outcome.ensures).0 (rw c.in-Spent.is at c.in_ok-outcome.ensures).1

pub returns : goal.returns
returns c = least_by_none c.args.subject.now.query c.args.claim.now c.args.subject.now.limits.depth c.args.subject.now.limits.nodes c.loop-least.least c.loop-least.invariant (omega arith)
