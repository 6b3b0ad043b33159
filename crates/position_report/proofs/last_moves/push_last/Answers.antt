use Rattle.position_report.proofs.Lasting.{line-told}
use Rattle.position_report.proofs.last_moves.push_last.Goals as goal

pub returns-then-told : goal.returns-then-told
returns-then-told c = line-told c.args.query.now c.args.found.now _ _ c.requires.line (rw c.if-told.true at c.in_ok-told.ensures)
