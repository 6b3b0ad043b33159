use Rattle.diagram_study.proofs.Telling.{plain_told}
use Rattle.diagram_study.proofs.studies.tell_plain.Goals as goal

pub returns-in-Ok : goal.returns-in-Ok
returns-in-Ok c =
    plain_told c.args.subject.now.query c.without_demands-query.result c.args.subject.now.limits.depth c.args.subject.now.limits.nodes c.in-Ok.field-0 _ _ _ c.without_demands-query.ensures c.in_ok-extend_from_slice.ensures.items c.in-Ok.ensures
