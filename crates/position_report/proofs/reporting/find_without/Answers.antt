use Rattle.position_report.proofs.Reported.{plain-told}
use Rattle.position_report.proofs.reporting.find_without.Goals as goal

pub returns : goal.returns
returns c =
    let found = rw c.without_demands.ensures at c.in_ok-findings.ensures.found in
    plain-told c.args.query.now c.args.limits.depth c.args.limits.nodes c.find.new.games.found.items c.in_ok-findings.findings c.finding.result c.args.out.now.items _ found c.finding.ensures (rw (c.as_slice-by.ensures.value, c.without_demands.ensures) at c.in_ok-push_first.ensures)
