use Rattle.std.proofs.Common.{◌≡◌}
use Rattle.ledger_lines.proofs.Counted.{count_first}
use Rattle.ledger_prose.specs.Words.{is_elsewhere}
use Rattle.ledger_prose.proofs.leftovers.number_elsewhere.Given as goal

abbrev pub invariant-loop-k : goal.invariant-loop-k
invariant-loop-k l = l.n ≡ count_first (is_elsewhere l.x l.ways) l.k
