use Rattle.ledger_search.proofs.Found.{Found}
use Rattle.ledger_told.specs.Due.{IsUnsure}
use Rattle.ledger_told.proofs.breeds.unsure.Given as goal

abbrev pub invariant-loop-i : goal.invariant-loop-i
invariant-loop-i l = Found (IsUnsure l.query l.ledger l.side l.breed) l.squares l.i
