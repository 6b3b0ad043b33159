use Rattle.ledger_search.specs.Learning.{Grows}
use Rattle.ledger_search.proofs.near.learn_files.Given as goal

abbrev pub invariant-loop-file : goal.invariant-loop-file
invariant-loop-file l = Grows l.query l.ledger l.known
