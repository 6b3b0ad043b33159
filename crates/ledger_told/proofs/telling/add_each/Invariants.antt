use Rattle.ledger_told.specs.Told.{TellsFirst}
use Rattle.ledger_told.proofs.Joining.{Adds}
use Rattle.ledger_told.proofs.telling.add_each.Given as goal

abbrev pub invariant-loop-i : goal.invariant-loop-i
invariant-loop-i l = Adds (TellsFirst l.topic l.query l.ledger l.i) l.fn.lines.items l.lines.items
