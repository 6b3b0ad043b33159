use Rattle.position_report.proofs.Open.{one-told}
use Rattle.position_report.proofs.unsettled.push_claim.Goals as goal

pub returns : goal.returns
returns c =
    one-told c.args.query.now c.args.said.now c.args.at_target.now c.args.stuck.now c.is_lost-lost.result c.args.run c.run_behind.result c.args.out.now.items _ _ _ c.is_lost-lost.ensures c.in_ok-push_run_before.ensures c.in_ok-tell_verdict.ensures c.in_ok-push_stuck.ensures c.run_behind.ensures
