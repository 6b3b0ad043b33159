use Rattle.ledger_search.proofs.Found.{Found}
use Rattle.ledger_search.proofs.Learned.{IsFoundAt}
use Rattle.ledger_search.proofs.learning.more.Given as goal

abbrev pub invariant-loop-i : goal.invariant-loop-i
invariant-loop-i l = Found (IsFoundAt l.query l.account.set l.account.prices l.question l.found) l.squares l.i
