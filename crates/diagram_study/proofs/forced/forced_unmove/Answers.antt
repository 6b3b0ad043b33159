use Rattle.std.proofs.Common.{sym, ◌∙◌}
use Rattle.diagram_study.proofs.Forcing.{forced_by, open_by, open_by_number}
use Rattle.diagram_study.proofs.forced.forced_unmove.Goals as goal

pub returns-then-is_proved : goal.returns-then-is_proved
returns-then-is_proved c =
    (forced_by c.args.subject.now.query c.args.subject.now.limits.depth c.args.subject.now.limits.nodes c.args.left.now c.in-Some.u c.in_ok-finding-in-Some.finding c.requires.left c.in-Some.ensures c.in_ok-finding-in-Some.ensures.found (sym c.is_proved.ensures ∙ c.if-is_proved.true), c.in-Some.ensures)

pub returns-else-is_proved : goal.returns-else-is_proved
returns-else-is_proved c =
    open_by c.args.subject.now.query c.args.subject.now.limits.depth c.args.subject.now.limits.nodes c.args.left.now c.in-Some.u c.in_ok-finding-in-Some.finding c.requires.left c.in-Some.ensures c.in_ok-finding-in-Some.ensures.found (sym c.is_proved.ensures ∙ c.if-is_proved.false)

pub returns-in-None : goal.returns-in-None
returns-in-None c = open_by_number c.args.subject.now.query c.args.subject.now.limits.depth c.args.subject.now.limits.nodes c.args.left.now c.requires.left c.in-None.ensures
