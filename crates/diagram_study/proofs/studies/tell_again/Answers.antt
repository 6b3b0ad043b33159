use Rattle.std.proofs.Common.{sym, ◌∙◌}
use Rattle.ledger_told.proofs.Joining.{ok_then}
use Rattle.diagram_study.proofs.Telling.{again_told}
use Rattle.diagram_study.proofs.studies.tell_again.Goals as goal

pub returns-then-makes_demands : goal.returns-then-makes_demands
returns-then-makes_demands c =
    ok_then c.tell_plain.result _ _
    (again_told c.args.subject.now.query c.args.subject.now.limits.depth c.args.subject.now.limits.nodes c.args.finding _ _ (sym c.is_proved.ensures ∙ c.if-is_proved.true) (sym c.makes_demands.ensures ∙ c.if-makes_demands.true))
    c.tell_plain.ensures
