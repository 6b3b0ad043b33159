use Rattle.diagram_study.proofs.Telling.{study_told}
use Rattle.diagram_study.proofs.Truths.{study_says}
use Rattle.diagram_study.proofs.studies.study.Goals as goal

pub returns-clause-study : goal.returns-clause-study
returns-clause-study c =
    study_told c.args.query.now c.args.most c.args.nodes c.in_ok-finding.finding c.new-text.result.items _ _ c.new-text.ensures.items c.in_ok-finding.ensures c.in_ok-tell_again.ensures

pub returns-clause-true_ : goal.returns-clause-true_
returns-clause-true_ c =
    study_says c.args.query.now c.args.most c.args.nodes _
    (study_told c.args.query.now c.args.most c.args.nodes c.in_ok-finding.finding c.new-text.result.items _ _ c.new-text.ensures.items c.in_ok-finding.ensures c.in_ok-tell_again.ensures)
