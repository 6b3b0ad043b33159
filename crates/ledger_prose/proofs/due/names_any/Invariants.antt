use Rattle.std.proofs.Common.{◌≡◌, ◌-◌}
use Rattle.std.specs.List.{list_any, range_with_len}
use Rattle.ledger_prose.specs.Sentences.{is_named}
use Rattle.ledger_prose.specs.Words.{is_any_from}
use Rattle.ledger_prose.proofs.due.names_any.Given as goal

abbrev pub invariant-loop-i : goal.invariant-loop-i
invariant-loop-i l = list_any (is_named l.query l.lines) (range_with_len l.i (64 - l.i)) ≡ is_any_from (is_named l.query l.lines) l.start
