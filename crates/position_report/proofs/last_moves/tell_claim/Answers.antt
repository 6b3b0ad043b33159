use Rattle.position_report.proofs.Lasting.{claim-told}
use Rattle.position_report.proofs.last_moves.tell_claim.Goals as goal

pub returns-in_ok-tell_line-in-Line : goal.returns-in_ok-tell_line-in-Line
returns-in_ok-tell_line-in-Line c = claim-told c.args.query.now c.args.claim.now c.in-Line.steps c.items.result.now _ _ c.in-Line.is c.items.ensures.items c.in_ok-tell_line-in-Line.ensures
