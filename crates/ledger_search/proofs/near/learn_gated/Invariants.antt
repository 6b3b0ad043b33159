use Rattle.ledger_search.specs.Learning.{Grows}
use Rattle.ledger_search.proofs.near.learn_gated.Given as goal

abbrev pub invariant-loop-i : goal.invariant-loop-i
invariant-loop-i l = Grows l.query l.ledger l.known
