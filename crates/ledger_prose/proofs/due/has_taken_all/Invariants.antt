use Rattle.std.proofs.Common.{◌≡◌, take, false}
use Rattle.std.specs.List.{list_any}
use Rattle.ledger_prose.specs.Sentences.{are_all_taken}
use Rattle.ledger_prose.proofs.due.has_taken_all.Given as goal

abbrev pub invariant-loop-line : goal.invariant-loop-line
invariant-loop-line l = list_any (are_all_taken l.side) (take l.line-index l.lines) ≡ false
