use Rattle.std.proofs.Common.{◌≡◌, take, false}
use Rattle.std.specs.List.{list_any}
use Rattle.ledger_prose.specs.Sentences.{names_square}
use Rattle.ledger_prose.proofs.due.is_named.Given as goal

abbrev pub invariant-loop-line : goal.invariant-loop-line
invariant-loop-line l = list_any (names_square l.query l.s) (take l.line-index l.lines) ≡ false
