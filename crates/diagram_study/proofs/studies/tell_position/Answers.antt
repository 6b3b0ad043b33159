use Rattle.diagram_study.proofs.Telling.{position_told}
use Rattle.diagram_study.proofs.studies.tell_position.Goals as goal

pub returns : goal.returns
returns c =
    position_told c.args.subject.now.query c.args.subject.now.limits.depth c.args.subject.now.limits.nodes _ c.in_ok-findings.findings c.finding.result _ _ c.in_ok-findings.ensures.found c.finding.ensures c.in_ok-tell_findings.ensures
