use Rattle.std.proofs.Common.{◌≡◌, take, false}
use Rattle.std.specs.List.{list_any}
use Rattle.ledger_prose.specs.Sentences.{is_later_fall}
use Rattle.ledger_prose.proofs.due.was_taken_later.Given as goal

abbrev pub invariant-loop-line : goal.invariant-loop-line
invariant-loop-line l = list_any (is_later_fall l.h) (take l.line-index l.lines) ≡ false
