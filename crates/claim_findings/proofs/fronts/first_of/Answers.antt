use Rattle.std.proofs.Common.{sym, ◌∙◌}
use Rattle.claim_findings.proofs.OpenFronts.{first_more}
use Rattle.claim_findings.proofs.fronts.first_of.Goals as goal

pub loop-i-preserved : goal.loop-i-preserved
loop-i-preserved c =
    first_more c.args.line.now c.loop-i.front c.push.new.self c.loop-i.i c.unwrap.result c.loop-i.invariant (sym c.get.ensures ∙ c.unwrap.ensures) c.in_ok-push.ensures.ok
