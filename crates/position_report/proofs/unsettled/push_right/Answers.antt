use Rattle.std.proofs.Common.{List, subst}
use Rattle.std.specs.Prelude.{IfOk}
use Rattle.position_report.specs.Open.{OpenClaim}
use Rattle.position_report.specs.Told.{AreTold}
use Rattle.position_report.proofs.Stuck.{right-open}
use Rattle.position_report.proofs.unsettled.push_right.Goals as goal

pub returns : goal.returns
returns c =
    subst (λ (cs : List OpenClaim). IfOk c.push_open.result (λ b. AreTold c.args.query.now cs c.args.run b c.args.out.now.items c.push_open.new.out.items))
    (right-open c.args.query.now c.target-at_target.result c.claim_of-claim.result c.args.found.now c.claim_of-claim.ensures c.target-at_target.ensures.query)
    c.push_open.ensures
