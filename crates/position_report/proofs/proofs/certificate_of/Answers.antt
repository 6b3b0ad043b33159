use Rattle.position_report.proofs.Telling.{settled-by}
use Rattle.position_report.proofs.proofs.certificate_of.Goals as goal

pub returns-in-Ok : goal.returns-in-Ok
returns-in-Ok c =
    settled-by c.args.limits.depth c.args.limits.nodes c.args.shown.now c.in-Ok.answer c.certificate_in.result c.in-Ok.ensures.settlement c.in-Ok.ensures.sketched c.certificate_in.ensures
