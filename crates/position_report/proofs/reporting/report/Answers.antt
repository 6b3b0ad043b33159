use Rattle.position_report.proofs.Reported.{report-told}
use Rattle.position_report.proofs.reporting.report.Goals as goal

pub returns : goal.returns
returns c =
    report-told c.args.query.now c.args.limits.depth c.args.limits.nodes c.find.new.games.found.items c.in_ok-findings.findings c.new-out.result.items _ _ c.in_ok-findings.ensures.found c.new-out.ensures.items c.in_ok-draw.ensures (rw c.as_slice-found.ensures.value at c.in_ok-push_findings.ensures)
