use Rattle.std.proofs.Common.{◌≡◌}
use Rattle.ledger_lines.proofs.Counted.{count_first}
use Rattle.ledger_prose.specs.Sentences.{is_named}
use Rattle.ledger_prose.proofs.due.number_named.Given as goal

abbrev pub invariant-loop-i : goal.invariant-loop-i
invariant-loop-i l = l.n ≡ count_first (is_named l.query l.lines) l.i
