use Rattle.ledger_lines.specs.Known.{IsKnown}
use Rattle.ledger_lines.specs.declared.facts.Fact.TheVariants.{Took}
use Rattle.ledger_told.proofs.pawns.most_taken.Given as goal

abbrev pub invariant-loop-n : goal.invariant-loop-n
invariant-loop-n l = IsKnown (Took l.s l.n) l.query l.ledger
