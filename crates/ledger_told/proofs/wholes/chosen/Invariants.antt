use Rattle.ledger_search.proofs.Found.{Found}
use Rattle.ledger_told.specs.Due.{IsChosen}
use Rattle.ledger_told.proofs.wholes.chosen.Given as goal

abbrev pub invariant-loop-i : goal.invariant-loop-i
invariant-loop-i l = Found (IsChosen l.group l.query l.ledger l.set) l.squares l.i
