use Rattle.position_report.specs.Proofs.{TellsProofs}
use Rattle.position_report.proofs.Joining.{from-nothing}
use Rattle.position_report.proofs.reporting.proofs_part.Goals as goal

pub returns : goal.returns
returns c = from-nothing (TellsProofs c.args.limits.depth c.args.limits.nodes 1 c.args.all.now) c.new-part.result.items _ c.new-part.ensures.items c.in_ok-push_proofs.ensures
